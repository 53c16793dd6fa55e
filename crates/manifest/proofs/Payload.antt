-- When the payload does not have its count of bytes: an area whose text is well formed is inconsistent exactly where the payload's
-- start plus count differs from the area's length, and otherwise it is a package. What the answer in the code says of what was
-- read. Assumes nothing.
use Prim.Native.Nat.{ℕ, ◌+◌}
use mathlib.Core.Path.{◌≡◌, refl, sym, ap, subst, ◌∙◌}
use mathlib.Core.List.{List, [], ◌∷◌, map}
use native.Mathlib.Omega.{arith}
use lib.Dec.{eqb}
use lib.ListN.{length, drop}
use borrow.Author.Tests.{eq-eqb, ne_eqb, eqb-false}
use Rattle.std.specs.Prelude.{Some, Result, Ok, Err}
use Rattle.base.specs.Refusals.{first_refusal}
use Rattle.base.proofs.Tests.{cond_cases}
use Rattle.text.specs.declared.cursor.Cursor.{Cursor}
use Rattle.rows.specs.declared.columns.PackageColumns.{PackageColumns}
use Rattle.rows.specs.Line.{line_from}
use Rattle.rows.specs.Columns.{package_columns}
use Rattle.text.proofs.ThenLaws.{then-cases-some}
use Rattle.actions.specs.View.{action_of}
use Rattle.manifest.specs.declared.package.PackageError.{PackageError}
use Rattle.manifest.specs.declared.package.PackageError.TheVariants as error
use Rattle.manifest.specs.declared.package.PackageRead.{PackageRead as PackageReadStruct}
use Rattle.package_heading.specs.Heading.{Heading, first_line}
use Rattle.manifest.specs.Package.{Manifest, PackageRead, ill_formed, inconsistent, consistent, Text, further_lines, further_most, package_with, read_package}
use Rattle.manifest.specs.Answer.{error_number, answer_number, refusal_number, cleared, package_read, package_answer}

-- the text before the payload is well formed: h is what its first value line says, and t what the lines behind it say
pub record TextRead (s : List ℕ) (h : Heading) (t : Text) : Type 0 where
  pub first : Cursor
  pub next : Cursor
  pub columns : PackageColumns
  pub names-line : line_from 6 0 s ≡ Some first
  pub names : package_columns 7 s ≡ Some columns
  pub value_line : line_from 6 first.at (drop first.at s) ≡ Some next
  pub heading-read : first_line columns (drop first.at s) ≡ Some h
  pub text-read : further_lines (further_most h.change) columns s next.at h.cluster ≡ Some t

module _ (s : List ℕ) (h : Heading) (t : Text) (r : TextRead s h t) where
  pub read-with : read_package s ≡ package_with s h t
  unfolding read_package
  read-with = rw (r.names-line, r.names, r.value_line, r.heading-read, r.text-read)

  pub payload-missing : (t.start + h.count ≡ length s → ⊥) → read_package s ≡ inconsistent
  unfolding package_with
  payload-missing n = rw (read-with, ne_eqb _ _ n)

  pub payload-there : t.start + h.count ≡ length s
      → read_package s ≡ consistent (record { action = action_of h.change t.cluster; start = t.start; count = h.count; sum = h.sum })
  unfolding package_with
  payload-there e = rw (read-with, eq-eqb _ _ e)

-- an area that is inconsistent has a well formed text and another number of bytes behind it
pub record Missing (s : List ℕ) : Type 0 where
  pub heading : Heading
  pub text : Text
  pub well-formed : TextRead s heading text
  pub differs : text.start + heading.count ≡ length s → ⊥

abbrev MissingIn : List ℕ → PackageRead → Type 0
MissingIn s ill_formed = Unit {0}
MissingIn s inconsistent = Missing s
MissingIn s (consistent m) = Unit {0}

missing-in : (s : List ℕ) → MissingIn s (read_package s)
unfolding read_package package_with
missing-in s =
    then-cases-some (MissingIn s) ill_formed (line_from 6 0 s) _ tt λ first a.
    then-cases-some (MissingIn s) ill_formed (package_columns 7 s) _ tt λ columns b.
    then-cases-some (MissingIn s) ill_formed (line_from 6 first.at (drop first.at s)) _ tt λ next c.
    then-cases-some (MissingIn s) ill_formed (first_line columns (drop first.at s)) _ tt λ h d.
    then-cases-some (MissingIn s) ill_formed (further_lines (further_most h.change) columns s next.at h.cluster) _ tt λ t e.
    cond_cases (MissingIn s) (eqb (t.start + h.count) (length s)) _ _ (λ f. tt) λ f.
    record {
      heading = h;
      text = t;
      well-formed = record { first = first; next = next; columns = columns; names-line = a; names = b; value_line = c; heading-read = d; text-read = e };
      differs = eqb-false _ _ f;
    }

pub missing : (s : List ℕ) → read_package s ≡ inconsistent → Missing s
missing s e = subst (MissingIn s) e (missing-in s)

-- ---- the answer in the code

-- what an answer says of what was read
abbrev pub Says : Result PackageReadStruct PackageError → PackageRead → Type 0
Says (Err error.IllFormed) p = p ≡ ill_formed
Says (Err error.Inconsistent) p = p ≡ inconsistent
Says (Ok read) p = (m : Manifest) × (p ≡ consistent m) × (read ≡ package_read (consistent m))

pub answer-says : (p : PackageRead) → Says (package_answer p) p
unfolding package_answer
answer-says ill_formed = refl
answer-says inconsistent = refl
answer-says (consistent m) = (m, refl, refl)

-- and its number is that of the refusal: 9, 10, or 0 for neither
pub answer-number : (p : PackageRead) → answer_number (package_answer p) ≡ refusal_number p
unfolding package_answer first_refusal
answer-number ill_formed = refl
answer-number inconsistent = refl
answer-number (consistent m) = refl

pub ruleset answered = (answer-number)

pub answer-numbers : (read : PackageReadStruct)
    → map answer_number (Err error.IllFormed ∷ Err error.Inconsistent ∷ Ok read ∷ []) ≡ 9 ∷ 10 ∷ 0 ∷ []
answer-numbers read = refl

-- what a caller knows of the two: r is the answer of the reader in the code
module _ (p : PackageRead) (r : Result PackageReadStruct PackageError) (e : r ≡ package_answer p) where
  -- of a package: it is what was read, and no refusal applies
  pub read-is : (o : PackageReadStruct) → r ≡ Ok o → o ≡ package_read p
  unfolding package_answer
  read-is o q = go p (sym q ∙ e)
    where
      go : (p : PackageRead) → Ok o ≡ package_answer p → o ≡ package_read p
      go ill_formed f = absurd (let z : ◌≡◌ {A = ℕ} 0 1 = cc in omega arith)
      go inconsistent f = absurd (let z : ◌≡◌ {A = ℕ} 0 1 = cc in omega arith)
      go (consistent m) f = cc

  pub read-number : (o : PackageReadStruct) → r ≡ Ok o → refusal_number p ≡ 0
  read-number o q = sym (answer-number p) ∙ ap answer_number (sym e ∙ q)

  -- of an error: there is no package, and its number is that of the refusal
  pub refused-cleared : (x : PackageError) → r ≡ Err x → package_read p ≡ cleared
  unfolding package_answer package_read
  refused-cleared x q = go p (sym q ∙ e)
    where
      go : (p : PackageRead) → Err x ≡ package_answer p → package_read p ≡ cleared
      go ill_formed f = refl
      go inconsistent f = refl
      go (consistent m) f = absurd (let z : ◌≡◌ {A = ℕ} 0 1 = cc in omega arith)

  pub refused-number : (x : PackageError) → r ≡ Err x → error_number x ≡ refusal_number p
  refused-number x q = ap answer_number (sym q ∙ e) ∙ answer-number p

-- which is not 0
pub number-not-zero : (x : PackageError) → error_number x ≡ 0 → ⊥
number-not-zero error.IllFormed e = omega arith
number-not-zero error.Inconsistent e = omega arith
