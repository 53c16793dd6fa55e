-- `replay_bench::packages_by_value::packages_by_value` meets its contract: what Packages says of the part that is lent, said of the whole list.
-- Assumes nothing.
use Prim.Native.Nat.{ℕ, ◌≤◌}
use mathlib.Core.Path.{◌≡◌, sym, ap, ◌∙◌}
use mathlib.Core.List.{List}
use native.Mathlib.Omega.{arith}
use lib.ListN.{length, take, replicate, length-replicate}
use lib.Seq.{length-take-le}
use Rattle.model.specs.Reading.{report_buffer}
use Rattle.state.specs.View.{view_state}
use Rattle.packages_report.specs.declared.Record.{Record}
use Rattle.packages_report.specs.Packages.{listed, packages_reply}
use Rattle.packages_report.specs.Records.{cleared_record}
use Rattle.reading_reply.specs.declared.ReadingReply.{ReadingReply as Reply}
use Rattle.reading_reply.specs.Reply.{reply_of}
use Rattle.script.specs.Limits.{records_most}
use Rattle.script_calls.proofs.LentLaws.{count_most}
use Rattle.replay_bench.proofs.Lent.{lent-given}
use Rattle.replay_bench.proofs.packages_by_value.packages_by_value.Goals.{After-room_within-count}
use Rattle.replay_bench.proofs.packages_by_value.packages_by_value.Goals as goal

part-long-of : (l : List Record) (n : ℕ) → n ≤ length l → n ≡ length (take n l)
part-long-of l n h = sym (length-take-le n l h)

within : (c : After-room_within-count) → c.room_within-count.result ≤ length c.cleared_list-list.result
within c =
    let long : length c.cleared_list-list.result ≡ records_most = ap (λ (l : List Record). length l) c.cleared_list-list.ensures ∙ length-replicate records_most cleared_record in
    omega (arith, count_most c.args.room records_most, c.room_within-count.ensures, long)

pub slice_bounds-list-end : goal.slice_bounds-list-end
slice_bounds-list-end c = within c

pub slice_bounds-packages-end : goal.slice_bounds-packages-end
slice_bounds-packages-end c =
    part-long-of c.cleared_list-list.result c.room_within-count.result (within (goal.at.slice_bounds-packages-end c).After-room_within-count)

pub returns-clause-answer : goal.returns-clause-answer
returns-clause-answer c =
    let e = c.packages-answer.ensures in
    let given = lent-given c.args.s c.cleared_list-list.result c.room_within-count.result (within (goal.at.returns-clause-answer c).After-room_within-count) c.args.store.now c.packages-answer.result c.packages-answer.new.list e.meaning e.exact in
    given.0 ∙ ap (packages_reply (view_state c.args.s) c.args.store.now) c.room_within-count.ensures

pub returns-clause-list : goal.returns-clause-list
returns-clause-list c =
    let e = c.packages-answer.ensures in
    let given = lent-given c.args.s c.cleared_list-list.result c.room_within-count.result (within (goal.at.returns-clause-list c).After-room_within-count) c.args.store.now c.packages-answer.result c.packages-answer.new.list e.meaning e.exact in
    given.1 ∙ ap (λ (l : List Record). report_buffer (reply_of c.packages-answer.result) (listed c.args.s) l) c.cleared_list-list.ensures
