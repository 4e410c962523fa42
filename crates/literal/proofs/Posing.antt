-- A rule posed: what the columns and the marks that are handed over hold, and the column of only values with which the rule compares.
use mathlib.Core.Path.{◌≡◌}
use mathlib.Core.Bool.{Bool, true, false}
use mathlib.Core.List.{List}
use Prim.Native.Nat.{ℕ, ◌≤◌, ◌<◌}
use native.Mathlib.Omega.{arith}
use lib.IntN.{ℤ}
use lib.ListN.{length}
use borrow.Author.Tests.{eq-eqb, ne_eqb}
use Rattle.meaning.specs.declared.Rule.{Rule}
use Rattle.meaning.specs.Document.{Doc}
use Rattle.meaning.specs.Rules.{is_reference, rule_fields}
use Rattle.meaning.proofs.Tables.{rule_row}
use Rattle.columns.specs.Lent.{Tree, Values}
use Rattle.columns.specs.Judgeable.{Judgeable}
use Rattle.marks.specs.Marks.{Marks}
use Rattle.literal.specs.Laid.{Rooms, Laid}
use Rattle.literal.specs.Only.{Only, Inside}
use Rattle.literal.specs.Posed.{Compares, Ready, Posed}

-- a rule is of some kind
pub some-kind : (r : Rule) → rule_fields r ≡ true → 1 ≤ r.kind
some-kind r e = ((rule_row r).0 e).kind

-- what the columns have room for
module _ {kinds vkinds names parents : List ℕ} {vals : List ℤ} {presents : List ℕ} (doc : Doc) (t : Tree doc kinds names parents) (w : Values doc kinds vkinds vals)
    (j : Judgeable doc) (here : doc.size ≤ length presents) where
  pub rooms-of : Rooms kinds vkinds names parents presents
  rooms-of =
      record {
        lies = record { doc = doc; tree = t; judgeable = j };
        vkind = omega (arith, t.kind.size, w.vkind.size);
        present = omega (arith, t.kind.size);
      }

  pub ready_of : (k : ℕ) (only : List ℕ) → (k ≤ 3 → Inside (length kinds) only) → Ready k kinds vkinds names parents vals presents only
  ready_of k only i =
      record { rooms = rooms-of; vkind = omega (arith, t.kind.size, w.vkind.size); value = omega (arith, t.kind.size, w.value.size); inside = i }

-- what they hold
module _ {kinds vkinds names parents : List ℕ} {vals : List ℤ} {presents : List ℕ} (doc : Doc) (p : ℕ → Bool) (t : Tree doc kinds names parents) (w : Values doc kinds vkinds vals)
    (m : Marks p doc.size presents) where
  pub laid_of : Laid doc p kinds vkinds names parents presents
  laid_of = record { tree = t; vkind = w.vkind; present = m }

  pub posed_of : (q r : Rule) (only : List ℕ) → Compares doc p q r only → Posed doc p q r kinds vkinds names parents vals presents only
  posed_of q r only c = record { laid = laid_of; valued = record { vkind = w.vkind; value = w.value }; compares = c }

-- with which only values a rule compares
module _ (doc : Doc) (p : ℕ → Bool) (q r : Rule) (only : List ℕ) where
  pub compares-none : 3 < r.kind → Compares doc p q r only
  compares-none h = record { own = λ l. absurd (omega arith); referred = λ e. absurd (omega arith) }

  pub compares-other : (other : Rule) → (is_reference r ≡ true → other ≡ q) → (is_reference r ≡ false → other ≡ r) → Only doc p other only → Compares doc p q r only
  compares-other other yes' no' o =
      record {
        own = λ l. rw (no' (ne_eqb r.kind 3 (λ e. omega arith))) at o;
        referred = λ e. rw (yes' (eq-eqb r.kind 3 e)) at o;
      }
