-- Payload's bytes are exactly the count and end the area; `payload_check` gives the number of the refusal, or 0, and on a sound state
-- 0 exactly where document 01 demands no refusal. Assumes nothing.
use Prim.Native.Nat.{ℕ, ◌+◌}
use mathlib.Core.Path.{◌≡◌, refl, sym, ap, ◌∙◌}
use mathlib.Core.Bool.{true}
use mathlib.Core.List.{List, [], ◌++◌}
use mathlib.Core.Logic.{◌↔◌}
use mathlib.Core.Option.{Option, none, some}
use native.Mathlib.Omega.{arith}
use lib.Dec.{eqb}
use lib.ListN.{length, take, drop, length-drop, take-append-drop}
use lib.Seq.{take_all}
use borrow.Author.Tests.{not-false}
use Rattle.base.specs.Refusals.{first_refusal, number_or_zero}
use Rattle.base.proofs.Tests.{cond_cases, clash}
use Rattle.manifest.specs.Package.{Manifest, consistent}
use Rattle.manifest.specs.Refused.{is_ill_formed, is_inconsistent}
use Rattle.manifest.proofs.Within.{read_package-within}
use Rattle.model.specs.State.{Package, State, Store}
use Rattle.model.specs.Areas.{find, area_of, is_transferring}
use Rattle.model.specs.Sound.{sound}
use Rattle.model.specs.Step.{named, area_read, manifest_of}
use Rattle.model.specs.Reading.{ReadingReply, given, further_payload_refusals, payload_refusals, payload_part, empty_when_refused, payload_reply, payload, payload_check, PayloadGiven}
use Rattle.model.proofs.soundness.SoundFacts.{sound-says}
use Rattle.model.proofs.soundness.Packages.{known_is, found-known, found-is}
use Rattle.model.proofs.soundness.Accepted.{first-passed, rest-passed, passed_over, on-sound, read_is}
use Rattle.model.proofs.store.StoreLength.{length-area}
use Rattle.model.proofs.journal.NeverUnsound.{has_number, first-listed}
use Rattle.model.proofs.reading.Replies.{reply-number}

module _ (s : State) (store : Store) (id : ℕ) where
  -- `payload_check` gives 0 exactly where Payload is not refused
  pub check-number : payload_check s store id ≡ number_or_zero (first_refusal (payload_refusals s store id))
  unfolding payload_check payload_reply
  check-number = reply-number (first_refusal (payload_refusals s store id)) (length (payload_part s store id))

  pub check-zero : payload_check s store id ≡ 0 → first_refusal (payload_refusals s store id) ≡ none
  unfolding payload_refusals further_payload_refusals has_number
  check-zero zero = go (first_refusal (payload_refusals s store id)) refl (sym check-number ∙ zero)
    where
      go : (o : Option ℕ) → first_refusal (payload_refusals s store id) ≡ o → number_or_zero o ≡ 0 → o ≡ none
      go none e z = refl
      go (some number) e z = clash (first-listed 0 (payload_refusals s store id) (e ∙ ap some z)) refl

  pub zero-check : first_refusal (payload_refusals s store id) ≡ none → payload_check s store id ≡ 0
  zero-check e = check-number ∙ ap number_or_zero e

  -- "empty when refused", with the number
  pub payload-refused : (number : ℕ) → first_refusal (payload_refusals s store id) ≡ some number
      → (payload s store id ≡ []) × (payload_check s store id ≡ number)
  unfolding payload payload_reply
  payload-refused number e = (
    rw e
        (cond_cases (λ (r : ReadingReply). empty_when_refused r (payload_part s store id) ≡ []) (eqb number 19) _ _ (λ b. refl) λ b. refl),
    check-number ∙ ap number_or_zero e,
  )

  abbrev area : List ℕ
  area = area_of id s.transfers.packages store

  -- what an accepted Payload gives: the bytes of its package's area from the payload's start on, as many as its text says
  pub record PayloadFacts : Type 0 where
    pub manifest : Manifest
    pub found : find id s.transfers.packages ≡ some (named s store id)
    pub read : area_read s store id ≡ consistent manifest
    pub size : length area ≡ (named s store id).size
    pub ends : manifest.start + manifest.count ≡ length area
    pub behind : payload s store id ≡ drop manifest.start area
    pub count : length (payload s store id) ≡ manifest.count
    pub inside : take manifest.start area ++ payload s store id ≡ area

  -- the reply is the number of the payload's bytes, and Payload gives these
  pub payload-given : first_refusal (payload_refusals s store id) ≡ none → payload_reply s store id ≡ given (length (payload_part s store id))
  unfolding payload_reply
  payload-given e = rw e

  pub payload-accepted : first_refusal (payload_refusals s store id) ≡ none → payload s store id ≡ payload_part s store id
  unfolding payload
  payload-accepted e = rw (payload-given e)

  pub payload-is : payload_check s store id ≡ 0 → PayloadFacts
  unfolding payload_refusals further_payload_refusals payload_part
  payload-is z =
      let h1 = check-zero z in
      let h4 = rest-passed _ _ h1 in
      let h9 = rest-passed _ _ (rest-passed _ _ h4) in
      let ok = sound-says s store (not-false _ (first-passed _ _ h1)) in
      let found = known_is id s.transfers.packages (first-passed _ _ h4) in
      let read = read_is (area_read s store id) (first-passed _ _ h9) (first-passed _ _ (rest-passed _ _ h9)) in
      let m = manifest_of (area_read s store id) in
      let ends : m.start + m.count ≡ length area = (read_package-within area m read).1 in
      let long : length (drop m.start area) ≡ m.count = rw (length-drop m.start area) (omega (arith, ends)) in
      let behind : payload s store id ≡ drop m.start area =
      payload-accepted h1 ∙ take_all m.count (drop m.start area) (omega (arith, long)) in
      record {
        manifest = m;
        found = found;
        read = read;
        size = length-area id s.transfers.packages (named s store id) store found ok.fit;
        ends = ends;
        behind = behind;
        count = ap length behind ∙ long;
        inside = ap (λ (l : List ℕ). take m.start area ++ l) behind ∙ take-append-drop m.start area;
      }

-- on a sound state `payload_check` gives 0 exactly where what Payload demands is there
pub given-exactly : (s : State) (store : Store) (id : ℕ) → sound s store ≡ true → (payload_check s store id ≡ 0) ↔ PayloadGiven s store id
unfolding payload_refusals further_payload_refusals
given-exactly s store id ok = (
  λ z. (let h5 = rest-passed _ _ (rest-passed _ _ (check-zero s store id z)) in
      let facts = payload-is s store id z in
      record {
        named = named s store id;
        found = facts.found;
        received = first-passed _ _ h5;
        manifest = facts.manifest;
        read = facts.read;
      }),
  λ g. (let ps = s.transfers.packages in
      zero-check s store id
      (on-sound s store (further_payload_refusals s store id) ok
      ∙ passed_over _ _ (found-known id ps g.named g.found)
      ∙ passed_over _ _ (ap (λ (p : Package). is_transferring p.state) (found-is id ps g.named g.found) ∙ g.received)
      ∙ passed_over _ _ (ap is_ill_formed g.read)
      ∙ passed_over _ _ (ap is_inconsistent g.read)
      ∙ unfold first_refusal in refl)),
)
