-- `process_package::checks::check_package` meets its contract: the same tests in the same order, the text read once. Assumes nothing.
use native.Mathlib.Omega.{arith}
use mathlib.Core.Path.{◌≡◌, ap, ◌∙◌}
use mathlib.Core.Bool.{not}
use mathlib.Core.List.{List}
use Prim.Native.Nat.{ℕ, ◌≤◌}
use Rattle.std.proofs.lemmas.Result.{IfOk-at_ok}
use Rattle.base.specs.Refusals.{first_refusal}
use Rattle.base.proofs.Ladder.{told}
use Rattle.refusal.specs.Number.{refused_with}
use Rattle.refusal.proofs.PassedUp.{passed-up}
use Rattle.manifest.specs.Package.{read_package}
use Rattle.manifest.specs.Refused.{package_refusals}
use Rattle.manifest.specs.Answer.{package_read}
use Rattle.model.specs.Areas.{is_transferred}
use Rattle.model.specs.Sound.{store_most}
use Rattle.state.specs.View.{view_package_state}
use Rattle.state.proofs.Tests.{same-transferred}
use Rattle.areas.specs.Inside.{read_at}
use Rattle.process_package.specs.Process.{work_of_package}
use Rattle.process_package.proofs.CheckLaws.{area-part, numbers_fit, off-first, text-first, action-first}
use Rattle.process_package.proofs.checks.check_package.Goals.{After-ne, After-read_area, In_ok-read}
use Rattle.process_package.proofs.checks.check_package.Goals as goal

-- whether the package is not Transferred
state-told : (c : After-ne) → c.ne.result ≡ not (is_transferred (view_package_state c.args.p.state))
state-told c = c.ne.ensures ∙ ap not (same-transferred c.args.p.state)

-- how the package's area is refused
read-told : (c : After-read_area) → refused_with c.read_area.result ≡ first_refusal (package_refusals (read_at c.args.t c.args.i c.args.p c.args.store.now))
read-told c =
    c.read_area.ensures.refused
    ∙ ap (λ (l : List ℕ). first_refusal (package_refusals (read_package l))) (area-part _ _ _ _ c.area_start-start.ensures)

-- what was read of it
read-is : (c : In_ok-read) → c.in_ok-read.read ≡ package_read (read_at c.args.t c.args.i c.args.p c.args.store.now)
read-is c =
    IfOk-at_ok _ c.in_ok-read.was c.read_area.ensures.read
    ∙ ap (λ (l : List ℕ). package_read (read_package l)) (area-part _ _ _ _ c.area_start-start.ensures)

pub returns-then-ne : goal.returns-then-ne
returns-then-ne c =
    record { refused = off-first _ _ _ (told _ _ _ (state-told (goal.at.returns-then-ne c).After-ne) c.if-ne.true); work = tt }

pub returns-in_err-read : goal.returns-in_err-read
returns-in_err-read c =
    let on = told _ _ _ (state-told (goal.at.returns-in_err-read c).After-ne) c.if-ne.false in
    let said = rw c.in_err-read.was at (read-told (goal.at.returns-in_err-read c).After-read_area) in
    rw (passed-up _ _ c.from_residual.ensures.1) (record { refused = text-first _ _ on _ _ said; work = tt })

pub returns-in_err-session_refusal : goal.returns-in_err-session_refusal
returns-in_err-session_refusal c =
    let on = told _ _ _ (state-told (goal.at.returns-in_err-session_refusal c).After-ne) c.if-ne.false in
    let z = rw c.in_ok-read.was at (read-told (goal.at.returns-in_err-session_refusal c).After-read_area) in
    let is = read-is (goal.at.returns-in_err-session_refusal c).In_ok-read in
    rw (passed-up _ _ c.from_residual-in_err-session_refusal.ensures.1)
    (record { refused = action-first _ _ on _ _ _ z is (rw c.in_err-session_refusal.was at c.session_refusal.ensures); work = tt })

pub work_of_package-requires : goal.work_of_package-requires
work_of_package-requires c =
    let short : c.args.p.size ≤ store_most = omega (arith, c.requires.0.area, c.requires.0.room) in
    numbers_fit _ _ _ (read-is (goal.at.work_of_package-requires c).In_ok-read) short

pub returns : goal.returns
returns c =
    let on = told _ _ _ (state-told (goal.at.returns c).After-ne) c.if-ne.false in
    let z = rw c.in_ok-read.was at (read-told (goal.at.returns c).After-read_area) in
    let is = read-is (goal.at.returns c).In_ok-read in
    record {
      refused = action-first _ _ on _ _ _ z is (rw c.in_ok-session_refusal.was at c.session_refusal.ensures);
      work = c.work_of_package.ensures ∙ ap work_of_package is;
    }
