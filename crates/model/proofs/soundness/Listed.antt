-- The tie between the session's list and the Processed packages: when a package is started, one changes, some are kept, and an
-- entry joins the list. Assumes nothing.
use mathlib.Core.Path.{◌≡◌, refl, sym, ap, subst, ◌∙◌}
use mathlib.Core.Bool.{Bool, true, false, not, ◌||◌, beq, false≢true}
use mathlib.Core.List.{List, [], ◌∷◌, ◌++◌}
use mathlib.Core.Option.{some}
use Prim.Native.Nat.{ℕ, ◌+◌, ◌≤◌, ◌<◌}
use native.Mathlib.Omega.{arith}
use lib.Dec.{eqb, ltb}
use lib.ListN.{length}
use borrow.Author.Tests.{eqb-true, ne_eqb, lt-ltb, le-ltb, ltb-true}
use Rattle.base.proofs.Tests.{and_left, and_right, and_both, bool_cases, or_cases, none-some}
use Rattle.model.specs.State.{Package, Entry}
use Rattle.model.specs.Areas.{find, remaining, changed, is_processed, count_in}
use Rattle.model.specs.Sound.{packages_rise, is_listed, processed_as_listed}
use Rattle.model.proofs.soundness.SoundFacts.{rises-says}
use Rattle.model.proofs.soundness.Counts.{one}

-- ---- equal tests

beq_same : (a b : Bool) → a ≡ b → beq a b ≡ true
beq_same true b e = rw (← e)
beq_same false b e = rw (← e)

beq-is : (a b : Bool) → beq a b ≡ true → a ≡ b
beq-is true true h = refl
beq-is true false h = absurd (false≢true h)
beq-is false true h = absurd (false≢true h)
beq-is false false h = refl

-- ---- an entry behind the list

pub listed-joined : (id : ℕ) (entries : List Entry) (e : Entry) → is_listed id (entries ++ e ∷ []) ≡ is_listed id entries || eqb id e.id
unfolding is_listed
listed-joined id [] e = last (eqb id e.id)
  where
    last : (b : Bool) → b || false ≡ b
    last true = refl
    last false = refl
listed-joined id (d ∷ entries) e = ap (λ (b : Bool). eqb id d.id || b) (listed-joined id entries e) ∙ group (eqb id d.id)
  where
    group : (b : Bool) → b || (is_listed id entries || eqb id e.id) ≡ b || is_listed id entries || eqb id e.id
    group true = refl
    group false = refl

-- ---- the tie

-- the tie of the package at the front
pub tied-first : (entries : List Entry) (p : Package) (ps : List Package) → processed_as_listed entries (p ∷ ps) ≡ true
    → is_processed p.state ≡ is_listed p.id entries
unfolding processed_as_listed
tied-first entries p ps h = beq-is _ _ (and_left _ _ h)

pub tied-rest : (entries : List Entry) (p : Package) (ps : List Package) → processed_as_listed entries (p ∷ ps) ≡ true
    → processed_as_listed entries ps ≡ true
unfolding processed_as_listed
tied-rest entries p ps h = and_right (beq (is_processed p.state) (is_listed p.id entries)) _ h

pub tied_is : (entries : List Entry) (p : Package) (ps : List Package) → is_processed p.state ≡ is_listed p.id entries
    → processed_as_listed entries ps ≡ true → processed_as_listed entries (p ∷ ps) ≡ true
unfolding processed_as_listed
tied_is entries p ps e h = and_both _ _ (beq_same _ _ e) h

-- the tie of a package found
pub tied-found : (entries : List Entry) (id : ℕ) (ps : List Package) (p : Package) → processed_as_listed entries ps ≡ true
    → find id ps ≡ some p → is_processed p.state ≡ is_listed id entries
unfolding find
tied-found entries id [] p h e = none-some e
tied-found entries id (q ∷ ps) p h e =
    let ih : find id ps ≡ some p → is_processed p.state ≡ is_listed id entries = tied-found entries id ps p (tied-rest entries q ps h) in
    bool_cases (eqb id q.id)
    (λ b. let same : q ≡ p = cc (rw b at e) in rw (← same, eqb-true id q.id b) (tied-first entries q ps h))
    λ b. ih (rw b at e)

pub tied-started : (entries : List Entry) (ps : List Package) (p : Package) → is_processed p.state ≡ is_listed p.id entries
    → processed_as_listed entries ps ≡ true → processed_as_listed entries (ps ++ p ∷ []) ≡ true
tied-started entries [] p e h = tied_is entries p [] e h
tied-started entries (q ∷ ps) p e h = tied_is entries q (ps ++ p ∷ []) (tied-first entries q ps h) (tied-started entries ps p e (tied-rest entries q ps h))

pub tied-kept : (entries : List Entry) (keeps : Package → Bool) (ps : List Package) → processed_as_listed entries ps ≡ true
    → processed_as_listed entries (remaining keeps ps) ≡ true
unfolding remaining
tied-kept entries keeps [] h = h
tied-kept entries keeps (p ∷ ps) h =
    let ih = tied-kept entries keeps ps (tied-rest entries p ps h) in
    bool_cases (keeps p) (λ b. rw b (tied_is entries p (remaining keeps ps) (tied-first entries p ps h) ih)) λ b. rw b ih

-- the packages that are not Processed, against the empty list
pub tied-cleaned : (ps : List Package) → processed_as_listed [] (remaining (λ p. not (is_processed p.state)) ps) ≡ true
unfolding remaining is_listed
tied-cleaned [] = unfold processed_as_listed in refl
tied-cleaned (p ∷ ps) =
    let ih = tied-cleaned ps in
    bool_cases (is_processed p.state) (λ b. rw b ih) λ b. rw b (tied_is [] p (remaining (λ q. not (is_processed q.state)) ps) b ih)

pub none-cleaned : (ps : List Package) → count_in is_processed (remaining (λ p. not (is_processed p.state)) ps) ≡ 0
unfolding remaining count_in
none-cleaned [] = refl
none-cleaned (p ∷ ps) =
    let ih = none-cleaned ps in
    bool_cases (is_processed p.state) (λ b. rw b ih) λ b. rw b (rw b (omega arith))

-- ---- one package changes, and perhaps the list with it

module _ (entries entries' : List Entry) (id : ℕ) (others : (j : ℕ) → eqb id j ≡ false → is_listed j entries' ≡ is_listed j entries) where
  -- packages with larger ids
  tied-past : (last next : ℕ) (ps : List Package) → id ≤ last → packages_rise last next ps ≡ true → processed_as_listed entries ps ≡ true
      → processed_as_listed entries' ps ≡ true
  tied-past last next [] l r h = unfold processed_as_listed in refl
  tied-past last next (p ∷ ps) l r h =
      let f = rises-says last next p ps r in
      let other : eqb id p.id ≡ false = ne_eqb id p.id (λ z. omega (arith, f.over)) in
      tied_is entries' p ps (tied-first entries p ps h ∙ sym (others p.id other))
      (tied-past p.id next ps (omega (arith, f.over)) f.rest (tied-rest entries p ps h))

  pub tied-changed : (change : Package → Package) → ((q : Package) → (change q).id ≡ q.id)
      → (last next : ℕ) (ps : List Package) (p : Package) → packages_rise last next ps ≡ true → find id ps ≡ some p
      → is_processed (change p).state ≡ is_listed id entries' → processed_as_listed entries ps ≡ true
      → processed_as_listed entries' (changed id change ps) ≡ true
  unfolding find changed
  tied-changed change same_id last next [] p r e n h = none-some e
  tied-changed change same_id last next (q ∷ ps) p r e n h =
      let f = rises-says last next q ps r in
      let ih : find id ps ≡ some p → processed_as_listed entries' (changed id change ps) ≡ true = λ y. tied-changed change same_id q.id next ps p f.rest y n (tied-rest entries q ps h) in
      bool_cases (eqb id q.id)
      (λ b. let same : q ≡ p = cc (rw b at e) in
      let here : is_processed (change q).state ≡ is_listed (change q).id entries' =
      subst (λ (j : ℕ). is_processed (change q).state ≡ is_listed j entries') (eqb-true id q.id b ∙ sym (same_id q))
      (subst (λ (y : Package). is_processed (change y).state ≡ is_listed id entries') (sym same) n) in
      rw b (tied_is entries' (change q) ps here (tied-past q.id next ps (omega (arith, eqb-true id q.id b)) f.rest (tied-rest entries q ps h))))
      λ b. rw b (tied_is entries' q (changed id change ps) (tied-first entries q ps h ∙ sym (others q.id b)) (ih (rw b at e)))

-- ---- an id above those of all packages is not listed: there are as many entries as Processed packages, which are all listed

-- how many entries have an id above a number
unfoldable entries_above : ℕ → List Entry → ℕ
entries_above low [] = 0
entries_above low (e ∷ entries) = one (ltb low e.id) + entries_above low entries

above-few : (low : ℕ) (entries : List Entry) → entries_above low entries ≤ length entries
unfolding entries_above
above-few low [] = omega arith
above-few low (e ∷ entries) = let ih = above-few low entries in bool_cases (ltb low e.id) (λ b. rw b (omega arith)) λ b. rw b (omega arith)

one_fewer : (low high id : ℕ) → low ≤ high → one (ltb high id) ≤ one (ltb low id)
one_fewer low high id l =
    bool_cases (ltb high id) (λ b. rw (b, lt-ltb low id (omega (arith, ltb-true high id b))) (omega arith)) λ b. rw b (omega arith)

above-fewer : (low high : ℕ) (entries : List Entry) → low ≤ high → entries_above high entries ≤ entries_above low entries
unfolding entries_above
above-fewer low high [] l = omega arith
above-fewer low high (e ∷ entries) l = omega (arith, above-fewer low high entries l, one_fewer low high e.id l)

-- a listed id counts where it is above the lower number and not above the higher
above_listed : (low id : ℕ) (entries : List Entry) → low < id → is_listed id entries ≡ true
    → 1 + entries_above id entries ≤ entries_above low entries
unfolding entries_above is_listed
above_listed low id [] l h = absurd (false≢true h)
above_listed low id (e ∷ entries) l h =
    let ih : is_listed id entries ≡ true → 1 + entries_above id entries ≤ entries_above low entries = above_listed low id entries l in
    or_cases (eqb id e.id) (is_listed id entries) h
    (λ b. let same : id ≡ e.id = eqb-true id e.id b in
    rw (lt-ltb low e.id (omega arith), le-ltb id e.id (omega arith)) (omega (arith, above-fewer low id entries (omega arith))))
    λ b. omega (arith, ih b, one_fewer low id e.id (omega arith))

counted-above : (entries : List Entry) (last next : ℕ) (ps : List Package) → last < next → packages_rise last next ps ≡ true
    → processed_as_listed entries ps ≡ true → is_listed next entries ≡ true → count_in is_processed ps + 1 ≤ entries_above last entries
unfolding count_in
counted-above entries last next [] l r h n = omega (arith, above_listed last next entries l n)
counted-above entries last next (p ∷ ps) l r h n =
    let f = rises-says last next p ps r in
    let ih = counted-above entries p.id next ps f.below f.rest (tied-rest entries p ps h) n in
    bool_cases (is_processed p.state)
    (λ b. rw b (omega (arith, ih, above_listed last p.id entries f.over (sym (tied-first entries p ps h) ∙ b))))
    λ b. rw b (omega (arith, ih, above-fewer last p.id entries (omega (arith, f.over))))

pub next-unlisted : (entries : List Entry) (next : ℕ) (ps : List Package) → 1 ≤ next → packages_rise 0 next ps ≡ true
    → processed_as_listed entries ps ≡ true → length entries ≡ count_in is_processed ps → is_listed next entries ≡ false
next-unlisted entries next ps o r h n =
    bool_cases (is_listed next entries)
    (λ b. absurd (omega (arith, counted-above entries 0 next ps (omega arith) r h b, above-few 0 entries)))
    λ b. b
