-- `packages_report::packages` meets its contract: 1 of an unsound state, and of a sound one the report behind it. Assumes nothing.
use mathlib.Core.Path.{◌≡◌, ap, ◌∙◌, sym}
use mathlib.Core.Bool.{not}
use Rattle.base.proofs.Ladder.{told-yes}
use Rattle.model.specs.Reading.{packages_report}
use Rattle.areas.proofs.FoundPackage.{count_fits}
use Rattle.reading_reply.specs.declared.ReadingReply.TheVariants.{Refused}
use Rattle.reading_reply.proofs.ReportLaws.{refuse-unsound-report, pass-sound-report}
use Rattle.packages_report.proofs.Reported.{exactly, viewed}
use Rattle.packages_report.proofs.packages.Goals as goal

pub returns-then-not-sound : goal.returns-then-not-sound
unfolding packages_report
returns-then-not-sound c = record {
  meaning = refuse-unsound-report _ _ _ _ _ c.sound.ensures (ap not c.if-not-sound.true);
  exact = exactly c.args.s c.args.store.now (Refused 1) _ _ (refuse-unsound-report _ _ _ _ _ c.sound.ensures (ap not c.if-not-sound.true));
}

pub report_records-requires : goal.report_records-requires
report_records-requires c = count_fits c.args.s c.args.store.now (sym c.sound.ensures ∙ c.if-not-sound.false)

pub returns : goal.returns
returns c =
    let few = count_fits c.args.s c.args.store.now (sym c.sound.ensures ∙ c.if-not-sound.false) in
    let report = pass-sound-report _ _ _ _ _ c.sound.ensures _ (ap not c.if-not-sound.false) c.report_records.ensures in
    record { meaning = viewed c.args.s c.args.store.now _ _ _ report few; exact = exactly c.args.s c.args.store.now _ _ _ report }
