-- The first places of a list are lent to Packages: what is said of the whole list then. Assumes nothing.
use Prim.Native.Nat.{ℕ, ◌≤◌}
use mathlib.Core.Path.{◌≡◌, sym, ap, ◌∙◌}
use mathlib.Core.List.{List, ◌++◌, append_assoc}
use native.Mathlib.Omega.{arith}
use lib.Dec.{ltb}
use lib.ListN.{length, take, drop, take-append-drop, length-map, length-take}
use lib.Seq.{drop-append-le}
use borrow.Author.Tests.{ltb-true, ltb-false}
use Rattle.base.proofs.Tests.{bool_cases}
use Rattle.model.specs.State as model
use Rattle.model.specs.State.{Store}
use Rattle.model.specs.Sound.{sound}
use Rattle.model.specs.Reading.{ReadingReply, refused_by, short_buffer, given, Report, PackageRecord, package_records, packages_report, report_of, report_reply, report_buffer}
use Rattle.model.proofs.reading.Replies.{report-unsound}
use Rattle.model.proofs.reading.Buffers.{report-short, report-fits}
use Rattle.state.specs.declared.state.State.{State}
use Rattle.state.specs.View.{view_state}
use Rattle.packages_report.specs.declared.Record.{Record}
use Rattle.packages_report.specs.Records.{view_record}
use Rattle.reading_reply.specs.declared.ReadingReply.{ReadingReply as Reply}
use Rattle.reading_reply.specs.Reply.{reply_of}
use Rattle.packages_report.specs.Packages.{listed, packages_reply, view_list, packages_given}

-- no more records are given than the list has places
abbrev InRoom : ℕ → ReadingReply → Type 0
InRoom room (refused_by number) = Unit {0}
InRoom room (short_buffer number) = Unit {0}
InRoom room (given count) = count ≤ room

in_room : (s : model.State) (store : Store) (room : ℕ) → InRoom room (packages_reply s store room)
unfolding packages_reply
in_room s store room =
    bool_cases (sound s store)
    (λ ok. bool_cases (ltb room (length (package_records s)))
    (λ b. rw (report-short s store _ room ok (ltb-true _ _ b)) tt)
    λ b. let fits = ltb-false room _ b in rw (report-fits s store _ room ok fits) fits)
    λ bad. rw (report-unsound s store _ room bad) tt

module _ (s : State) (xs : List Record) (n : ℕ) (inside : n ≤ length xs) where
  abbrev lent : List Record
  lent = take n xs

  lent_length : length lent ≡ n
  lent_length = rw length-take (omega arith)

  -- the list with the part that was lent in its place
  whole : (reply : ReadingReply) → InRoom (length lent) reply → report_buffer reply (listed s) lent ++ drop n xs ≡ report_buffer reply (listed s) xs
  unfolding report_buffer
  whole (refused_by number) f = take-append-drop n xs
  whole (short_buffer most) f = take-append-drop n xs
  whole (given count) f =
      append_assoc (listed s) (drop count lent) (drop n xs)
      ∙ ap (λ (l : List Record). listed s ++ l) (sym (drop-append-le count lent (drop n xs) f) ∙ ap (drop count) (take-append-drop n xs))

  pub lent-given : (store : Store) (r : Reply) (zs : List Record)
      → packages_given r zs ≡ packages_report (view_state s) store (view_list lent) → zs ≡ report_buffer (reply_of r) (listed s) lent
      → (reply_of r ≡ packages_reply (view_state s) store n) × (zs ++ drop n xs ≡ report_buffer (reply_of r) (listed s) xs)
  unfolding packages_report report_of packages_reply
  lent-given store r zs e f =
      let told : reply_of r ≡ packages_reply (view_state s) store (length lent) =
      ap (λ (x : Report PackageRecord). x.reply) e ∙ ap (report_reply (view_state s) store (length (package_records (view_state s)))) (length-map lent view_record) in
      let here : report_buffer (reply_of r) (listed s) lent ++ drop n xs ≡ report_buffer (reply_of r) (listed s) xs =
      rw told (whole (packages_reply (view_state s) store (length lent)) (in_room (view_state s) store (length lent))) in
      (told ∙ ap (packages_reply (view_state s) store) lent_length, ap (λ (l : List Record). l ++ drop n xs) f ∙ here)
