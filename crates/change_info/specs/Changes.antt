-- ChangeInfo's text of a session's struct, by the model's definitions.
use Rattle.std.specs.Prelude.{ℕ, List, [], ◌∷◌, ◌++◌}
use Rattle.base.specs.Quoted.{bytes}
use Rattle.text.specs.Digits.{digits}
use Rattle.rows.specs.Line.{line_text}
use Rattle.actions.specs.Action.{Action, action_part}
use Rattle.model.specs.State.{actions}
use Rattle.model.specs.Reading.{change_word, change_lines}
use Rattle.state.specs.declared.session.Session.{Session}
use Rattle.state.specs.View.{view_entries}

-- the line of an action, as `change_lines` has it
abbrev pub change_line : Action → List ℕ
change_line a = line_text (digits (action_part a) ∷ change_word a ∷ [])

-- "as names `cluster`, `change`"; "with a names line always"
abbrev pub change_names : List ℕ
change_names = line_text (bytes "cluster" ∷ bytes "change" ∷ [])

-- "the session's list in order"
abbrev pub listed_actions : Session → List Action
listed_actions session = actions (view_entries session)

-- `change_info` of a state is this of its session
unfoldable pub changes_text : Session → List ℕ
changes_text session = change_names ++ change_lines (listed_actions session)
