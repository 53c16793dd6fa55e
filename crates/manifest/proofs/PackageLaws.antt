-- The package that the code makes of what it has read, and the ways out of the loop over the further value lines. Assumes nothing.
use Prim.Native.Nat.{ℕ, zero, suc, ◌+◌, ◌-◌, ◌≤◌, ◌<◌}
use mathlib.Core.Path.{◌≡◌, sym, ap, ◌∙◌}
use mathlib.Core.Bool.{Bool, true, false, not}
use mathlib.Core.List.{List, [], ◌∷◌}
use native.Mathlib.Omega.{arith}
use lib.Dec.{leb}
use lib.ListN.{length, drop, get_or, length-append, get_or-eq_default}
use borrow.Author.Tests.{eq-eqb, ne_eqb, eqb-true, leb-true, leb-false, not-true, not-false}
use Rattle.std.specs.Prelude.{Option, Some, None, Result, Ok, Err}
use Rattle.base.specs.Quoted.{LF}
use Rattle.base.proofs.Tests.{bool_cases}
use Rattle.text.specs.declared.cursor.Cursor.{Cursor}
use Rattle.text.specs.Then.{and_then_some}
use Rattle.rows.specs.declared.columns.PackageColumns.{PackageColumns}
use Rattle.rows.specs.Line.{line_from}
use Rattle.clusters.specs.declared.cluster.Need.{Need}
use Rattle.clusters.specs.declared.cluster.Cluster.{Cluster as ClusterStruct}
use Rattle.actions.specs.declared.action.Change.{Change}
use Rattle.actions.specs.declared.action.Change.TheVariants.{Install, Update, Remove}
use Rattle.actions.specs.declared.action.Action.{Action as ActionStruct}
use Rattle.clusters.specs.Cluster.{Cluster, cluster, with_need, needs_most}
use Rattle.clusters.specs.View.{no_version}
use Rattle.actions.specs.View.{action_of}
use Rattle.clusters.specs.Struct.{struct_cluster}
use Rattle.actions.specs.Struct.{struct_action}
use Rattle.clusters.specs.Exact as exact
use Rattle.clusters.proofs.Structs.{struct-with-need}
use Rattle.cluster_list.proofs.FirstNeed.{few-filled}
use Rattle.package_heading.specs.declared.heading.Heading.{Heading as HeadingStruct}
use Rattle.manifest.specs.declared.package.PackageError.{PackageError}
use Rattle.manifest.specs.declared.package.PackageError.TheVariants.{IllFormed, Inconsistent}
use Rattle.manifest.specs.declared.package.PackageRead.{PackageRead as PackageReadStruct}
use Rattle.package_heading.specs.Heading.{Heading}
use Rattle.package_heading.specs.Found.{plain_heading}
use Rattle.manifest.specs.Package.{Text, ill_formed, only_need, is_empty_line, further_lines, further_most, package_with, package_behind}
use Rattle.manifest.specs.Answer.{package_read, package_answer}

-- ---- the structs that the code makes

abbrev Answered : Type 0
Answered = Result PackageReadStruct PackageError

abbrev bare : ℕ → Cluster
bare part = cluster part no_version []

abbrev action : Change → ClusterStruct → ActionStruct
action change cluster = record { change = change; cluster = cluster }

-- x is the code's cluster
module _ (change : Change) (x : ClusterStruct) (plain : Cluster) (e : x ≡ struct_cluster plain) where
  pub action-install : change ≡ Install → action change x ≡ struct_action (action_of change plain)
  unfolding struct_action
  action-install h = rw h (ap (action Install) e)

  pub action-update : change ≡ Update → action change x ≡ struct_action (action_of change plain)
  unfolding struct_action
  action-update h = rw h (ap (action Update) e)

  pub action-remove : (y : ClusterStruct) → change ≡ Remove → y ≡ struct_cluster (bare x.part) → action change y ≡ struct_action (action_of change plain)
  unfolding struct_action struct_cluster
  action-remove y h q = rw h (ap (action Remove) (q ∙ ap (λ (k : ClusterStruct). struct_cluster (bare k.part)) e))

pub ruleset actions = (action-install, action-update, action-remove)

-- the LF of the empty line stands at `at`
module _ (s : List ℕ) (heading : HeadingStruct) (plain : Cluster) (at : ℕ) (inside : at < length s) where
  abbrev text : Text
  text = record { cluster = plain; start = at + 1 }

  pub payload-fits : (a : ActionStruct) → a ≡ struct_action (action_of heading.fields.change plain) → length s - (at + 1) ≡ heading.fields.count
      → Ok (record { action = a; start = at + 1; count = heading.fields.count; sum = heading.fields.sum })
      ≡ package_answer (package_with s (plain_heading heading) text)
  unfolding package_answer package_read package_with
  payload-fits a e h =
      let fits : at + 1 + heading.fields.count ≡ length s = omega arith in
      rw (eq-eqb _ _ fits)
      (ap {B = Answered} (λ (k : ActionStruct). Ok (record { action = k; start = at + 1; count = heading.fields.count; sum = heading.fields.sum })) e)

  pub payload-differs : (length s - (at + 1) ≡ heading.fields.count → ⊥)
      → Err Inconsistent ≡ package_answer (package_with s (plain_heading heading) text)
  unfolding package_answer package_with
  payload-differs h =
      let differs : at + 1 + heading.fields.count ≡ length s → ⊥ = λ q. h (omega arith) in
      rw (ne_eqb _ _ differs)

-- ---- the further value lines

-- past the end there is no LF, so the empty line stands within the text
LF-inside : (s : List ℕ) (at : ℕ) → get_or s at 0 ≡ LF → at < length s
LF-inside s at e =
    bool_cases (leb (length s) at)
    (λ z. absurd (let q : 0 ≡ LF = sym (get_or-eq_default s 0 {n = at} (leb-true _ _ z)) ∙ e in omega arith))
    λ z. leb-false _ _ z

-- the code has read the lines before the position `at` and has room for `lines` more; what it gives at the end is `whole`
pub record Reading (s : List ℕ) (columns : PackageColumns) (h : Heading) (whole : Answered) (lines at : ℕ) (cluster : ClusterStruct) : Type 0 where
  pub plain : Cluster
  pub stands : cluster ≡ struct_cluster plain
  pub room : length plain.needs + lines ≤ needs_most
  pub rest : whole ≡ package_answer (and_then_some ill_formed (further_lines lines columns s at plain) (package_with s h))

module _ (s : List ℕ) (columns : PackageColumns) (h : Heading) (whole : Answered) (lines at : ℕ) (cluster : ClusterStruct)
    (now : Reading s columns h whole lines at cluster) (t : Bool) (told : t ≡ is_empty_line s at) where
  -- the empty line stands here
  pub at-end : (x : Answered) → not t ≡ false
      → ((plain : Cluster) → cluster ≡ struct_cluster plain → x ≡ package_answer (package_with s h (record { cluster = plain; start = at + 1 }))) → x ≡ whole
  unfolding further_lines
  at-end x e f = f now.plain now.stands ∙ sym (now.rest ∙ go lines)
    where
      go : (n : ℕ) → package_answer (and_then_some ill_formed (further_lines n columns s at now.plain) (package_with s h))
          ≡ package_answer (package_with s h (record { cluster = now.plain; start = at + 1 }))
      go zero = rw (← told, not-false t e)
      go (suc n) = rw (← told, not-false t e)

  pub end-inside : not t ≡ false → at < length s
  end-inside e = LF-inside s at (eqb-true (get_or s at 0) LF (sym told ∙ not-false t e))

  -- a line stands here; x is what the code answers
  module _ (more : not t ≡ true) where
    pub no_room : lines ≡ 0 → Err IllFormed ≡ whole
    unfolding further_lines package_answer
    no_room z = sym (now.rest ∙ rw (z, ← told, not-true t more))

    module _ (some_left : lines ≡ 0 → ⊥) where
      one_less : lines ≡ suc (lines - 1)
      one_less = omega arith

      pub need-fits : cluster.need_count < needs_most
      unfolding struct_cluster
      need-fits = rw now.stands (omega (arith, now.room))

      module _ (l : Option Cursor) (line-told : l ≡ line_from 6 at (drop at s)) where
        pub no-line-here : (x : Answered) → x ≡ Err IllFormed → l ≡ None → x ≡ whole
        unfolding further_lines package_answer
        no-line-here x e z = e ∙ sym (now.rest ∙ rw (one_less, ← told, not-true t more, ← line-told, z))

        module _ (next : Cursor) (ends : l ≡ Some next) (n : Option Need) (need-told : n ≡ only_need columns (drop at s)) where
          pub no-need-here : (x : Answered) → x ≡ Err IllFormed → n ≡ None → x ≡ whole
          unfolding further_lines package_answer
          no-need-here x e z = e ∙ sym (now.rest ∙ rw (one_less, ← told, not-true t more, ← line-told, ends, ← need-told, z))

          pub next-line : (need : Need) (left : ℕ) (more-needs : ClusterStruct) → n ≡ Some need → left ≡ lines - 1
              → more-needs ≡ exact.with_need cluster need → Reading s columns h whole left next.at more-needs
          unfolding further_lines
          next-line need left more-needs z q e = record {
            plain = with_need now.plain need;
            stands = e ∙ rw now.stands (struct-with-need now.plain need (omega (arith, now.room)));
            room = omega (arith, length-append now.plain.needs (need ∷ []), now.room);
            rest = now.rest ∙ rw (one_less, ← told, not-true t more, ← line-told, ends, ← need-told, z, ← q);
          }

-- the first value line is read
pub reading_begins : (s : List ℕ) (columns : PackageColumns) (heading : HeadingStruct) (lines at : ℕ) (cluster : ClusterStruct)
    → lines ≡ further_most heading.fields.change → cluster ≡ struct_cluster (plain_heading heading).cluster
    → Reading s columns (plain_heading heading) (package_answer (package_behind columns s at (plain_heading heading))) lines at cluster
reading_begins s columns heading lines at cluster e q = record {
  plain = (plain_heading heading).cluster;
  stands = q;
  room = omega (arith, e, few-filled heading.need, few-lines heading.fields.change);
  rest = rw e;
}
  where
    few-lines : (change : Change) → further_most change ≤ 3
    few-lines Install = omega arith
    few-lines Update = omega arith
    few-lines Remove = omega arith
