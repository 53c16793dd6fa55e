-- What is printed of an input: by whether Load refuses it, and by what Load and ClusterInfo give in code. Assumes nothing.
use Prim.Native.Nat.{ℕ, ◌≤◌}
use mathlib.Core.Path.{◌≡◌, refl, sym, ap, ◌∙◌}
use mathlib.Core.Bool.{true, false}
use mathlib.Core.List.{List, [], ◌∷◌, ◌++◌}
use native.Mathlib.Nat.{zero-add}
use native.Mathlib.Omega.{arith}
use lib.Dec.{lit≤}
use lib.ListN.{length, drop}
use lib.Seq.{sets-eq}
use Rattle.base.specs.Quoted.{bytes, LF}
use Rattle.base.proofs.Tests.{bool_cases}
use Rattle.text.specs.Digits.{digits, digits_in}
use Rattle.text.specs.Put.{Put}
use Rattle.cluster_list.specs.Read.{read_list}
use Rattle.cluster_list.specs.Write.{written_list_most}
use Rattle.model.specs.State as model
use Rattle.model.specs.State.{Store}
use Rattle.model.specs.Calls.{done}
use Rattle.model.specs.Step as step
use Rattle.model.specs.Sound.{sound}
use Rattle.model.specs.Load as loading
use Rattle.model.specs.Load.{table_or_empty, is_bad_load, loaded_state}
use Rattle.model.specs.Reading as reading
use Rattle.model.specs.Reading.{Report, report_buffer, report_of, cluster_info, cluster_info_report}
use Rattle.model.proofs.soundness.LoadSound.{load_is, load-refused, load-sound}
use Rattle.model.proofs.reading.Buffers.{report-fits}
use Rattle.model.proofs.reading.Lengths.{cluster-info-most}
use Rattle.state.specs.declared.state.State.{State}
use Rattle.state.specs.declared.answer.Answer.{Answer}
use Rattle.state.specs.declared.answer.Answer.TheVariants.{Done, Refused}
use Rattle.state.specs.declared.answer.Answered.{Answered}
use Rattle.state.specs.View.{view_state}
use Rattle.state.specs.Outcome.{Outcome, outcome, reply_of, view_outcome, SoundIfAccepted}
use Rattle.load.specs.Exact.{load}
use Rattle.load.proofs.Told.{IsOther, bad-load, told-bad}
use Rattle.reading_reply.specs.declared.ReadingReply.{ReadingReply}
use Rattle.reading_reply.specs.declared.ReadingReply.TheVariants.{Refused as RefusedReport, ShortBuffer, Given}
use Rattle.reading_reply.specs.Reply as report
use Rattle.reading_reply.specs.Reply.{view_report}
use Rattle.clist.specs.Answer.{printed, first_id, answer_to}

-- ---- by whether Load refuses the input

abbrev refusal : List ℕ
refusal = bytes "refused 20" ++ LF ∷ []

module _ (input : List ℕ) where
  pub refused-answer : (given : model.State) → is_bad_load input first_id [] ≡ true → answer_to given input ≡ refusal
  unfolding answer_to digits digits_in
  refused-answer given bad = rw ((load-refused given input first_id [] 20).1 (refl, bad))

  loaded-answer : (given : model.State) → is_bad_load input first_id [] ≡ false
      → answer_to given input ≡ cluster_info (loaded_state (table_or_empty (read_list input)) first_id)
  unfolding answer_to
  loaded-answer given good = rw (load_is given input first_id [] good)

  -- whatever state is given
  same_answer : (given other : model.State) → answer_to given input ≡ answer_to other input
  same_answer given other =
      bool_cases (is_bad_load input first_id [])
      (λ bad. refused-answer given bad ∙ sym (refused-answer other bad))
      λ good. loaded-answer given good ∙ sym (loaded-answer other good)

  pub answer-most : (given : model.State) → length (answer_to given input) ≤ written_list_most
  answer-most given =
      bool_cases (is_bad_load input first_id [])
      (λ bad. rw (refused-answer given bad) (lit≤ tt))
      λ good. rw (loaded-answer given good)
      (cluster-info-most _ [] (rw (load_is given input first_id [] good) at (load-sound given input first_id [] good)))

-- ---- ClusterInfo in code: a sound state in a buffer with room for the longest list is reported

given-alone : (r : ReadingReply) (count : ℕ) → report.reply_of r ≡ reading.given count → r ≡ Given count
given-alone (RefusedReport number) count e = cc
given-alone (ShortBuffer needed) count e = cc
given-alone (Given n) count e = cc

module _ (s : model.State) (store : Store) (ok : sound s store ≡ true) (old new : List ℕ) (room : written_list_most ≤ length old)
    (r : ReadingReply) (meaning : view_report r new ≡ cluster_info_report s store old) where
  fits : length (cluster_info s) ≤ length old
  fits = omega (arith, cluster-info-most s store ok)

  is_whole : view_report r new
      ≡ record { reply = reading.given (length (cluster_info s)); buffer = cluster_info s ++ drop (length (cluster_info s)) old }
  unfolding cluster_info_report report_of report_buffer
  is_whole = meaning ∙ rw (report-fits s store (length (cluster_info s)) (length old) ok fits)

  is-given : r ≡ Given (length (cluster_info s))
  is-given = given-alone r _ (ap (λ (z : Report ℕ). z.reply) is_whole)

  info-put : (count : ℕ) → r ≡ Given count → Put old 0 (cluster_info s) count new
  info-put count e =
      let same : Given count ≡ Given (length (cluster_info s)) = sym e ∙ is-given in
      let counted : count ≡ length (cluster_info s) = cc in
      record {
        behind = counted ∙ sym (zero-add (length (cluster_info s)));
        bytes = ap (λ (z : Report ℕ). z.buffer) is_whole ∙ sym (sets-eq (cluster_info s) old 0 (omega (arith, fits)) ∙ rw zero-add);
      }

  -- what the code's `else` knows does not come about
  not-else : {X : Type 0} → ((count : ℕ) → r ≡ Given count → ⊥) → X
  not-else other = absurd (other _ is-given)

-- ---- Load in code: it answers Done or refuses by 20

-- what the contract of `load` says of its answer and the store then
module _ (input : List ℕ) (s : State) (r : Answered Answer) (after : Store)
    (loads : (view_outcome (outcome r after) ≡ loading.load (view_state s) input first_id [])
    × ((outcome r after ≡ load s input first_id []) × SoundIfAccepted (outcome r after))) where
  is-printed : (given : model.State) → answer_to given input ≡ printed (reply_of r.answer) (view_state r.state)
  unfolding answer_to
  is-printed given = same_answer input given (view_state s) ∙ ap (λ (o : step.Outcome). printed o.reply o.state) (sym loads.0)

  refused-else : IsOther r.answer → r.answer ≡ Refused 20
  refused-else other =
      let bad = told-bad s input first_id [] (outcome r after) loads.1.0 other in
      ap (λ (o : Outcome). o.answered.answer) (loads.1.0 ∙ bad-load s input first_id [] bad)

  -- ---- the ways out of `put_answer`

  pub refused-put : (old new : List ℕ) (next : ℕ) → IsOther r.answer → Put old 0 refusal next new
      → (given : model.State) → Put old 0 (answer_to given input) next new
  unfolding digits digits_in
  refused-put old new next other p given =
      let is : answer_to given input ≡ refusal =
      is-printed given ∙ ap (λ (a : Answer). printed (reply_of a) (view_state r.state)) (refused-else other) in
      rw is p

  module _ (done-told : r.answer ≡ Done) (old new : List ℕ) (room : written_list_most ≤ length old) (info : ReadingReply)
      (meaning : view_report info new ≡ cluster_info_report (view_state r.state) after old) where
    is-sound : sound (view_state r.state) after ≡ true
    unfolding SoundIfAccepted
    is-sound = loads.1.1 done (ap reply_of done-told)

    pub given-put : (count : ℕ) → info ≡ Given count → (given : model.State) → Put old 0 (answer_to given input) count new
    given-put count e given =
        let is : answer_to given input ≡ cluster_info (view_state r.state) =
        is-printed given ∙ ap (λ (a : Answer). printed (reply_of a) (view_state r.state)) done-told in
        rw is (info-put (view_state r.state) after is-sound old new room info meaning count e)

    pub never-else : {X : Type 0} → ((count : ℕ) → info ≡ Given count → ⊥) → X
    never-else = not-else (view_state r.state) after is-sound old new room info meaning
