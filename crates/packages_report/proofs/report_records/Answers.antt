-- `packages_report::report_records` meets its contract: too short, with the number needed, or written, an iteration a record.
-- Assumes nothing.
use Rattle.std.proofs.Common.{rules, arith, ◌≡◌, ◌∙◌, refl, sym, ap, List, length}
use lib.ListN.{set}
use Rattle.packages_report.specs.declared.Record.{Record}
use Rattle.base.proofs.Counted.{unmapped}
use Rattle.model.specs.Sound.{packages_most}
use Rattle.reading_reply.proofs.ReportLaws.{short-report, given-report}
use Rattle.packages_report.proofs.Recorded.{recorded-length, one_more, all-written}
use Rattle.packages_report.proofs.report_records.Goals.{Start}
use Rattle.packages_report.proofs.report_records.Goals as goal

long : (c : Start) → length c.args.t.packages ≡ packages_most
long c = search (rules, unmapped)

pub returns-then-list-t : goal.returns-then-list-t
returns-then-list-t c =
    short-report _ _ _ (sym (recorded-length c.args.t c.requires (long (goal.at.returns-then-list-t c).Start))) c.if-list-t.true

pub loop-i-init : goal.loop-i-init
loop-i-init c = refl

pub loop-i-preserved : goal.loop-i-preserved
loop-i-preserved c =
    let l = c.loop-i in
    ap (λ (xs : List Record). set xs l.i c.record_of.result) l.invariant
    ∙ one_more c.args.t c.requires (long (goal.at.loop-i-preserved c).Start) c.args.list.now c.if-list-t.false l.i _ (omega (arith, c.loop-i-test.true)) c.record_of.ensures

pub returns : goal.returns
returns c =
    let l = c.loop-i in
    let n = recorded-length c.args.t c.requires (long (goal.at.returns c).Start) in
    given-report _ _ _ (sym n) l.list (omega (arith, n))
    (l.invariant ∙ all-written c.args.t c.requires (long (goal.at.returns c).Start) c.args.list.now c.if-list-t.false l.i (omega arith))
