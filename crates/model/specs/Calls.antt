-- The twelve changing calls and their answers. Numbers and bytes are any ℕ, so what is claimed of calls covers more than those of 32
-- and 8 bits.
use Rattle.std.specs.Prelude.{ℕ, Bool, List}

-- "The twelve changing calls", in the order in which document 01 lists them; of Report, true is good and false is bad
pub data Call : Type 0 where
  transfer_start : ℕ → Call
  transfer_data : ℕ → ℕ → List ℕ → Call
  transfer_exit delete_transfer process work cancel : ℕ → Call
  revert activate rollback finish : Call
  report : Bool → Call

-- the number of a call, which the table of permissions goes by
abbrev pub call_number : Call → ℕ
call_number (transfer_start size) = 0
call_number (transfer_data id counter block) = 1
call_number (transfer_exit id) = 2
call_number (delete_transfer id) = 3
call_number (process id) = 4
call_number (work n) = 5
call_number (cancel id) = 6
call_number revert = 7
call_number activate = 8
call_number rollback = 9
call_number finish = 10
call_number (report good) = 11

-- the answer of an accepted call. "where no name or id is given the answer is Done"
pub data Answer : Type 0 where
  given_id : ℕ → Answer
  done working processed cancelled inconsistent : Answer
  pre_activation_failed missing_dependencies verification_failed : Answer
  not_able_to_rollback not_able_to_revert cleaning_failed : Answer

-- "a refusal is the number alone"
pub data Reply : Type 0 where
  refused : ℕ → Reply
  accepted : Answer → Reply
