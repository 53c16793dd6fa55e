-- The line of an action by its parts: the part number, the word, the comma between them and the LF. Assumes nothing.
use Prim.Native.Nat.{ℕ}
use mathlib.Core.Path.{◌≡◌, refl, ap}
use mathlib.Core.List.{List, [], ◌∷◌, ◌++◌}
use Rattle.base.specs.Quoted.{comma, LF}
use Rattle.text.specs.Digits.{digits}
use Rattle.text.proofs.PutPair.{Pair}
use Rattle.rows.specs.Line.{line_text}
use Rattle.clusters.specs.Cluster.{Cluster}
use Rattle.clusters.specs.View.{view_cluster}
use Rattle.actions.specs.declared.action.Change.{Change}
use Rattle.actions.specs.declared.action.Change.TheVariants.{Install, Update, Remove}
use Rattle.actions.specs.declared.action.Action.{Action}
use Rattle.actions.specs.Action.{action_part}
use Rattle.actions.specs.View.{action_of, view_action}
use Rattle.model.specs.Reading.{change_word}
use Rattle.change_info.specs.Changes.{change_line}

part-is : (change : Change) (c : Cluster) → action_part (action_of change c) ≡ c.part
part-is Install c = refl
part-is Update c = refl
part-is Remove c = refl

module _ (a : Action) where
  abbrev word : List ℕ
  word = change_word (view_action a)

  pub line-pair : Pair (change_line (view_action a)) (digits a.cluster.part) comma word LF
  unfolding line_text
  line-pair =
      record { parts = ap (λ (n : ℕ). digits n ++ (comma ∷ (word ++ LF ∷ []))) (part-is a.change (view_cluster a.cluster)) }

  -- by the change that a match found
  pub word-is : (change : Change) → a.change ≡ change → word ≡ change_word (action_of change (view_cluster a.cluster))
  word-is change e = ap (λ (is : Change). change_word (action_of is (view_cluster a.cluster))) e
