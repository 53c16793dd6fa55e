-- What Packages answers and leaves in the list, as structs and as the model's records. Assumes nothing.
use Prim.Native.Nat.{ℕ, ◌≤◌}
use mathlib.Core.Path.{◌≡◌, refl, sym, ap, ap₂, ◌∙◌}
use mathlib.Core.List.{List, map, map-map, map-append}
use lib.ListN.{length, take, drop, length-map}
use Rattle.actions.proofs.Arrays.{map-drop}
use Rattle.model.specs.State.{Store}
use Rattle.model.specs.Sound.{packages_most}
use Rattle.model.specs.Reading.{ReadingReply, refused_by, short_buffer, given, Report, PackageRecord, package_record, package_records, packages_report, report_of, report_reply, report_buffer}
use Rattle.state.specs.declared.state.State.{State}
use Rattle.state.specs.View.{view_package, view_packages, view_state}
use Rattle.state.proofs.Views.{packages-few}
use Rattle.packages_report.specs.declared.Record.{Record}
use Rattle.packages_report.specs.Records.{record_of, view_record}
use Rattle.reading_reply.specs.declared.ReadingReply.{ReadingReply as Reply}
use Rattle.reading_reply.specs.Reply.{reply_of, view_report}
use Rattle.packages_report.specs.Packages.{listed, view_list, packages_given}

-- the structs stand for the model's records
pub view-listed : (s : State) → s.transfers.count ≤ packages_most → view_list (listed s) ≡ package_records (view_state s)
unfolding package_records
view-listed s few =
    let counting = take s.transfers.count s.transfers.packages in
    map-map view_record record_of counting
    ∙ sym (map-map package_record view_package counting)
    ∙ ap (map package_record) (sym (packages-few s.transfers few))

buffer-viewed : (reply : ReadingReply) (content old : List Record)
    → view_list (report_buffer reply content old) ≡ report_buffer reply (view_list content) (view_list old)
unfolding report_buffer
buffer-viewed (refused_by number) content old = refl
buffer-viewed (short_buffer needed) content old = refl
buffer-viewed (given count) content old = map-append view_record content (drop count old) ∙ rw (map-drop view_record count old)

module _ (s : State) (store : Store) (r : Reply) (new old : List Record) (e : view_report r new ≡ report_of (view_state s) store (listed s) old) where
  pub exactly : new ≡ report_buffer (reply_of r) (listed s) old
  unfolding report_of
  exactly =
      ap (λ (z : Report Record). z.buffer) e
      ∙ ap (λ (a : ReadingReply). report_buffer a (listed s) old) (sym (ap (λ (z : Report Record). z.reply) e))

  pub viewed : s.transfers.count ≤ packages_most → packages_given r new ≡ packages_report (view_state s) store (view_list old)
  unfolding packages_report report_of
  viewed few =
      let records = package_records (view_state s) in
      let same = view-listed s few in
      let with : ReadingReply → List PackageRecord → Report PackageRecord = λ a l. record { reply = a; buffer = l } in
      let told : reply_of r ≡ report_reply (view_state s) store (length records) (length (view_list old)) =
      ap (λ (z : Report Record). z.reply) e
      ∙ ap₂ (λ (m n : ℕ). report_reply (view_state s) store m n) (sym (length-map (listed s) view_record) ∙ ap length same) (sym (length-map old view_record)) in
      let buffer : view_list new ≡ report_buffer (reply_of r) records (view_list old) =
      ap view_list exactly ∙ buffer-viewed (reply_of r) (listed s) old ∙ ap (λ (l : List PackageRecord). report_buffer (reply_of r) l (view_list old)) same in
      ap (with (reply_of r)) buffer ∙ ap (λ (a : ReadingReply). with a (report_buffer a records (view_list old))) told
