-- The checks of a package after refusal 4: what its area reads as decides, way out by way out. Assumes nothing.
use Prim.Native.Nat.{ℕ, ◌+◌, ◌-◌, ◌≤◌, ◌<◌}
use mathlib.Core.Path.{◌≡◌, refl, sym, ap, ◌∙◌}
use mathlib.Core.Bool.{true, false, not}
use mathlib.Core.List.{List}
use mathlib.Core.Option.{Option, none, some}
use native.Mathlib.Omega.{arith}
use lib.ListN.{length, take, drop, length-take}
use Rattle.base.specs.Refusals.{first_refusal}
use Rattle.base.proofs.Tests.{none-some}
use Rattle.actions.specs.Refusals.{action_refusals}
use Rattle.actions.specs.View.{view_action}
use Rattle.manifest.specs.declared.package.PackageRead.{PackageRead as PackageReadStruct}
use Rattle.manifest.specs.Package.{PackageRead, ill_formed, inconsistent, consistent, read_package}
use Rattle.manifest.specs.Refused.{package_refusals}
use Rattle.manifest.specs.Answer.{package_read}
use Rattle.manifest.proofs.Within.{read_package-within, read_package-viewed}
use Rattle.model.specs.State.{PackageState, Session, Store, actions}
use Rattle.model.specs.Areas.{is_transferred}
use Rattle.model.specs.Tables.{staged}
use Rattle.model.specs.Sound.{store_most}
use Rattle.model.specs.Step.{manifest_of, process_refusals}

-- ---- what was read

-- the bytes from the start on that was computed, as many as the size, are the area
pub area-part : (start from size : ℕ) (store : Store) → start ≡ from → take (start + size - start) (drop start store) ≡ take size (drop from store)
area-part start from size store same =
    let whole : start + size - start ≡ size = omega arith in
    rw (whole, same)

module _ (bytes : List ℕ) where
  -- start and count lie within the bytes; where no package was read, both are 0
  inside : (read : PackageRead) → read_package bytes ≡ read → (package_read read).start + (package_read read).count ≤ length bytes
  unfolding package_read
  inside ill_formed e = omega arith
  inside inconsistent e = omega arith
  inside (consistent m) e = omega (arith, (read_package-within bytes m e).1)

  viewed : (read : PackageRead) → read_package bytes ≡ read → none ≡ first_refusal (package_refusals read)
      → view_action (package_read read).action ≡ (manifest_of read).action
  unfolding package_read first_refusal
  viewed ill_formed e z = none-some z
  viewed inconsistent e z = none-some z
  viewed (consistent m) e z = read_package-viewed bytes m e

-- so both fit 32 bits where the area is within a store's limit
pub numbers_fit : (o : PackageReadStruct) (size : ℕ) (bytes : List ℕ) → o ≡ package_read (read_package (take size bytes)) → size ≤ store_most
    → (o.start < 4294967296) × (o.count < 4294967296)
numbers_fit o size bytes e h =
    let part = take size bytes in
    let fits = inside part (read_package part) refl in
    let short = length-take size bytes in
    (rw e (omega arith), rw e (omega arith))

-- ---- the first refusal

module _ (package_state : PackageState) (session : Session) where
  pub off-first : (read : PackageRead) → not (is_transferred package_state) ≡ true → some 5 ≡ first_refusal (process_refusals package_state read session)
  unfolding first_refusal
  off-first read off = rw off

  module _ (on : not (is_transferred package_state) ≡ false) where
    -- past 5, by 9 or 10
    pub text-first : (read : PackageRead) (n : ℕ) → some n ≡ first_refusal (package_refusals read)
        → some n ≡ first_refusal (process_refusals package_state read session)
    unfolding first_refusal
    text-first ill_formed n e = rw on e
    text-first inconsistent n e = rw on e
    text-first (consistent m) n e = none-some (sym e)

    -- past these, by 11 to 15 and 21
    past : (read : PackageRead) (x : Option ℕ) → none ≡ first_refusal (package_refusals read)
        → x ≡ first_refusal (action_refusals (staged session) (actions session.listed) (manifest_of read).action)
        → x ≡ first_refusal (process_refusals package_state read session)
    unfolding first_refusal
    past ill_formed x z e = none-some z
    past inconsistent x z e = none-some z
    past (consistent m) x z e = rw on e

    -- o is what the reader in the code gave
    pub action-first : (bytes : List ℕ) (o : PackageReadStruct) (x : Option ℕ) → none ≡ first_refusal (package_refusals (read_package bytes))
        → o ≡ package_read (read_package bytes) → x ≡ first_refusal (action_refusals (staged session) (actions session.listed) (view_action o.action))
        → x ≡ first_refusal (process_refusals package_state (read_package bytes) session)
    action-first bytes o x z e told =
        let same = ap (λ (r : PackageReadStruct). view_action r.action) e ∙ viewed bytes (read_package bytes) refl z in
        past (read_package bytes) x z (told ∙ ap (λ a. first_refusal (action_refusals (staged session) (actions session.listed) a)) same)
