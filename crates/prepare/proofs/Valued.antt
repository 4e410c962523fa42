-- What matters to a rule beside its wrong values: to a key, a unique rule and a reference, sequenced or not, all that has a value; in windows a cardinality
-- that counts values and a datatype pass over nils.
use mathlib.Core.Path.{◌≡◌, refl}
use mathlib.Core.Logic.{⊎_elim}
use mathlib.Core.Bool.{true, false, ◌&&◌, ◌||◌, not, and-true}
use Prim.Native.Nat.{ℕ, zero, suc, ◌≤◌}
use native.Mathlib.Omega.{arith}
use lib.Dec.{eqb}
use borrow.Author.Tests.{eqb-true, le-leb}
use Rattle.meaning.specs.declared.Rule.{Rule}
use Rattle.meaning.specs.Document.{Doc}
use Rattle.meaning.specs.Rules.{is_key, is_unique, is_sequenced}
use Rattle.meaning.specs.Select.{valued, is_nil}
use Rattle.meaning.proofs.Basics.{went, or_cases}
use Rattle.meaning.proofs.Says.{says}
use Rattle.prepare.specs.Rows.{wants_by, over_nils, wants, KnownOnly}

-- the first three kinds pass over no nils
pub none_over : (r : Rule) → r.kind ≤ 3 → over_nils r ≡ false
unfolding over_nils
none_over r h = simp says (omega arith, λ e. absurd (omega arith))

module _ (doc : Doc) (r : Rule) (f : ℕ) where
  low-kind : (k : ℕ) → k ≤ 3 → wants_by doc r f k ≡ valued doc f
  unfolding wants_by
  low-kind zero h = refl
  low-kind (suc zero) h = refl
  low-kind (suc (suc zero)) h = refl
  low-kind (suc (suc (suc zero))) h = refl
  low-kind (suc (suc (suc (suc k)))) h = absurd (omega arith)

  pub low-wants : r.kind ≤ 3 → wants doc r f ≡ valued doc f
  unfolding wants
  low-wants h = ⊎_elim (λ y. rw y (low-kind r.kind h)) (λ z. rw (none_over r h) (rw z (and-true (valued doc f)))) (went (is_sequenced r))

  module _ (windowed : is_sequenced r ≡ false) where
    pub counted-wants : r.kind ≡ 4 → wants doc r f ≡ (valued doc f && not (eqb r.distinct 1 && is_nil doc f))
    unfolding wants over_nils
    counted-wants e = rw (windowed, e)

    stepped-wants : 5 ≤ r.kind → wants doc r f ≡ (valued doc f && not (is_nil doc f))
    unfolding wants over_nils
    stepped-wants h = rw (windowed, le-leb 5 r.kind h)

pub known_only : (doc : Doc) (r : Rule) → is_sequenced r ≡ false → 5 ≤ r.kind → KnownOnly doc r
known_only doc r windowed h f = stepped-wants doc r f windowed h

pub valued_only : (doc : Doc) (q : Rule) → (is_key q || is_unique q) ≡ true → (f : ℕ) → wants doc q f ≡ valued doc f
valued_only doc q e f =
    low-wants doc q f
    (⊎_elim (λ t. let k = eqb-true q.kind 1 t in omega arith) (λ t. let k = eqb-true q.kind 2 t in omega arith) (or_cases (is_key q) (is_unique q) e))
