-- `clist::print::put_answer` puts what is printed of the input. Assumes nothing.
use Rattle.clist.proofs.Printed.{refused-put, given-put, never-else}
use borrow.Author.Rules.{rules}
use Rattle.clist.proofs.print.put_answer.Goals as goal

pub returns-in_default : goal.returns-in_default
returns-in_default c =
    refused-put _ _ _ _ (c.load-loaded.ensures.meaning, (c.load-loaded.ensures.exact, c.load-loaded.ensures.sound)) _ _ _ c.in_default.not-Done c.put_bytes.ensures

pub returns-in_default-report : goal.returns-in_default-report
returns-in_default-report c =
    never-else _ _ _ _ (c.load-loaded.ensures.meaning, (c.load-loaded.ensures.exact, c.load-loaded.ensures.sound)) c.in-Done.is _ _ (search rules) c.cluster_info-report.result c.cluster_info-report.ensures.meaning c.in_default-report.not-Given

pub returns : goal.returns
returns c =
    given-put _ _ _ _ (c.load-loaded.ensures.meaning, (c.load-loaded.ensures.exact, c.load-loaded.ensures.sound)) c.in-Done.is _ _ (search rules) _ c.cluster_info-report.ensures.meaning _ c.in-Given.is
