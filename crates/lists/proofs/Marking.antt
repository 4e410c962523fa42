-- How the versions of a day are marked, and what the list of the marked ones then is.
use mathlib.Core.Path.{◌≡◌, sym, ap, ◌∙◌}
use mathlib.Core.Bool.{Bool, ◌&&◌}
use mathlib.Core.List.{List}
use Prim.Native.Nat.{ℕ, ◌+◌, ◌≤◌, ◌<◌}
use native.Mathlib.Omega.{arith}
use lib.Dec.{eqb, leb, ltb}
use lib.ListN.{length, get_or, set}
use lib.Seq.{get_or-set_same, get_or-set_other}
use borrow.Author.Count.{below_more}
use Rattle.meaning.specs.Reading.{Accepted}
use Rattle.std.specs.Prelude.{Result}
use Rattle.meaning.specs.declared.Refusal.{Refusal}
use Rattle.meaning.specs.Document.{Doc}
use Rattle.meaning.specs.Day.{alive}
use Rattle.meaning.specs.Answer.{storing, lent_after}
use Rattle.columns.specs.Lent.{Lends, Periods}
use Rattle.marks.specs.Marks.{marked, Marks}

-- the numbers below i are marked where they pass
abbrev pub Below : (ℕ → Bool) → ℕ → List ℕ → Type 0
Below passes i marks = (k : ℕ) → k < i → marked marks k ≡ passes k

pub mark-next : (passes : ℕ → Bool) (i x : ℕ) (marks : List ℕ) → i < length marks → eqb x 1 ≡ passes i → Below passes i marks → Below passes (i + 1) (set marks i x)
mark-next passes i x marks h e b =
    below_more (λ k. marked (set marks i x) k ≡ passes k) i
    (λ k l. ap (λ y. eqb y 1) (get_or-set_other marks i k x 0 (λ p. omega arith)) ∙ b k l)
    (ap (λ y. eqb y 1) (get_or-set_same marks i x 0 h) ∙ e)

pub marks-all : (passes : ℕ → Bool) (i n : ℕ) (marks : List ℕ) → n ≤ i → n ≤ length marks → Below passes i marks → Marks passes n marks
marks-all passes i n marks h r b = record { room = r; mark = λ k l. b k (omega arith) }

module _ (doc : Doc) (d : ℕ) {kinds begins ends : List ℕ} (t : Lends doc.size doc.kind 0 kinds) (w : Periods doc begins ends) where
  pub alive-at : (x i : ℕ) → eqb x 1 ≡ (eqb (get_or kinds i 0) 2 && leb (get_or begins i 0) d && ltb d (get_or ends i 0)) → eqb x 1 ≡ alive doc d i
  unfolding alive
  alive-at x i e = rw (sym (t.at i), sym (w.begin.at i), sym (w.end.at i)) e

-- what the call then answers and leaves
module _ (list other lent : List ℕ) (e : list ≡ other) where
  pub answer-of : {x : Result ℕ Refusal} → x ≡ storing Accepted list lent → x ≡ storing Accepted other lent
  answer-of p = rw (sym e) p

  pub lent_of : (x : Result ℕ Refusal) (out : List ℕ) → out ≡ lent_after x list lent → out ≡ lent_after x other lent
  lent_of x out p = rw (sym e) p
