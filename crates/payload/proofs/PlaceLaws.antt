-- Where the payload lies, by what the checks show: what the text of the area says, and the place that each way out gives. Assumes nothing.
use Prim.Native.Nat.{ℕ, ◌+◌, ◌≤◌}
use mathlib.Core.Path.{◌≡◌, refl, ap, ◌∙◌}
use mathlib.Core.Bool.{true, false}
use mathlib.Core.List.{List}
use mathlib.Core.Option.{Option, none, some}
use native.Mathlib.Omega.{arith}
use lib.ListN.{length, take, length-take}
use Rattle.base.specs.Refusals.{first_refusal}
use Rattle.manifest.specs.declared.package.PackageRead.{PackageRead as PackageReadStruct}
use Rattle.manifest.specs.Package.{PackageRead, ill_formed, inconsistent, consistent, read_package}
use Rattle.manifest.specs.Refused.{package_refusals}
use Rattle.manifest.specs.Answer.{package_read}
use Rattle.manifest.proofs.Within.{read_package-within}
use Rattle.model.specs.State as model
use Rattle.model.specs.State.{Store}
use Rattle.model.specs.Areas.{find, area_start, area_of, is_transferring}
use Rattle.model.specs.Step.{unknown, manifest_of}
use Rattle.model.specs.Reading.{further_payload_refusals}
use Rattle.model.proofs.soundness.Packages.{found-known, found-is}
use Rattle.payload.specs.declared.place.PayloadPlace.{PayloadPlace}
use Rattle.payload.specs.Place.{place_on_sound}

-- ---- what its text says

-- text and payload lie in the area; where no package was read, both are 0
manifest-inside : (p : PackageRead) (bytes : List ℕ) → read_package bytes ≡ p → (manifest_of p).start + (manifest_of p).count ≤ length bytes
manifest-inside ill_formed bytes e = omega arith
manifest-inside inconsistent bytes e = omega arith
manifest-inside (consistent m) bytes e = omega (arith, (read_package-within bytes m e).1)

start-read : (p : PackageRead) → (package_read p).start ≡ (manifest_of p).start
unfolding package_read
start-read ill_formed = refl
start-read inconsistent = refl
start-read (consistent m) = refl

count-read : (p : PackageRead) → (package_read p).count ≡ (manifest_of p).count
unfolding package_read
count-read ill_formed = refl
count-read inconsistent = refl
count-read (consistent m) = refl

-- r is what the reader in the code gave
module _ (bytes : List ℕ) (r : PackageReadStruct) (e : r ≡ package_read (read_package bytes)) where
  told-start : r.start ≡ (manifest_of (read_package bytes)).start
  told-start = ap (λ (x : PackageReadStruct). x.start) e ∙ start-read (read_package bytes)

  told-count : r.count ≡ (manifest_of (read_package bytes)).count
  told-count = ap (λ (x : PackageReadStruct). x.count) e ∙ count-read (read_package bytes)

-- the payload starts within the bytes that were read
pub start-inside : (n : ℕ) (bytes : List ℕ) (r : PackageReadStruct) → r ≡ package_read (read_package (take n bytes)) → r.start ≤ n
start-inside n bytes r e =
    let part = take n bytes in
    omega (arith, told-start part r e, manifest-inside (read_package part) part refl, length-take n bytes)

-- ---- the first refusal and the place, by the way out

module _ (s : model.State) (store : Store) (id : ℕ) (ps : List model.Package) (same : s.transfers.packages ≡ ps) where
  pub unknown-first : unknown id ps ≡ true → some 4 ≡ first_refusal (further_payload_refusals s store id)
  unfolding further_payload_refusals first_refusal
  unknown-first h = rw (same, h)

  module _ (p : model.Package) (known : find id ps ≡ some p) where
    pub transferring-first : is_transferring p.state ≡ true → some 5 ≡ first_refusal (further_payload_refusals s store id)
    unfolding further_payload_refusals first_refusal
    transferring-first h = rw (same, found-known id ps p known, found-is id ps p known, h)

    -- past 4 and 5 what was read decides
    read-first : is_transferring p.state ≡ false
        → first_refusal (package_refusals (read_package (area_of id ps store))) ≡ first_refusal (further_payload_refusals s store id)
    unfolding further_payload_refusals first_refusal
    read-first h = rw (same, found-known id ps p known, found-is id ps p known, h)

    -- bytes are those of the area
    module _ (idle : is_transferring p.state ≡ false) (bytes : List ℕ) (area : bytes ≡ area_of id ps store) where
      pub decided : (x : Option ℕ) → x ≡ first_refusal (package_refusals (read_package bytes)) → x ≡ first_refusal (further_payload_refusals s store id)
      decided x e = e ∙ ap (λ (l : List ℕ). first_refusal (package_refusals (read_package l))) area ∙ read-first idle

      -- o is what the reader in the code gave
      pub given-place : (at : ℕ) (o : PackageReadStruct) → at ≡ area_start id ps → o ≡ package_read (read_package bytes)
          → none ≡ first_refusal (package_refusals (read_package bytes))
          → ◌≡◌ {A = PayloadPlace} (record { start = at + o.start; count = o.count }) (place_on_sound s store id)
      unfolding place_on_sound
      given-place at o f e passed = rw (← decided none passed, same, f, told-start bytes o e, told-count bytes o e, area)
