-- Two results that the call's promise allows are equal.
use mathlib.Core.Path.{◌≡◌, refl, sym, ap, ◌∙◌}
use mathlib.Core.Logic.{⊎_elim}
use mathlib.Core.Bool.{cond}
use mathlib.Core.List.{List}
use Prim.Native.Nat.{ℕ, ◌<◌, ◌≤◌}
use native.Mathlib.Nat.{eq-or-lt_of_le}
use native.Mathlib.Omega.{arith}
use lib.Dec.{eqb}
use lib.ListN.{length}
use Rattle.std.specs.Prelude.{Some, None, Err, Ok, Result}
use Rattle.meaning.specs.Answer.{Told}
use Rattle.meaning.proofs.Basics.{clear, le_or_lt}
use Rattle.meaning.specs.declared.Refusal.{Refusal}
use Rattle.meaning.specs.Reading.{Refused}
use Rattle.selectors.specs.declared.Selector.{Selector}
use Rattle.selectors.specs.Profile.{Hopeless, Outside}
use Rattle.selectors.specs.Selecting.{tell_selected, Comes, outside, unsound, unknown, path, SelectorPromise}

-- no place of a text outside the profile is below another
no_lower : {text : List ℕ} {p q : ℕ} → Outside text p → Outside text q → p < q → ⊥
no_lower {text} {p} {q} a b h =
    ⊎_elim
    (λ (hopeless : Hopeless text p). b.first p h hopeless)
    (λ (all : p ≡ length text). ⊎_elim (λ (hopeless : Hopeless text q). omega (arith, hopeless.inside)) (λ (same : q ≡ length text). omega arith) b.place)
    a.place

-- 27 has one place
pub outside-unique : {text : List ℕ} {p q : ℕ} → Outside text p → Outside text q → p ≡ q
outside-unique {text} {p} {q} a b =
    ⊎_elim
    (λ (h : p ≤ q). ⊎_elim (λ (e : p ≡ q). e) (λ (l : p < q). absurd (no_lower a b l)) (eq-or-lt_of_le h))
    (λ (h : q < p). absurd (no_lower b a h))
    (le_or_lt p q)

-- an answer is had back from its numbers
pub told-unique : (a b : Result ℕ Refusal) → tell_selected a ≡ tell_selected b → a ≡ b
unfolding tell_selected
told-unique a b e = sym (back a) ∙ ap (λ (t : Told). cond (eqb t.outcome 0) (Ok t.count) (Refused t.number t.place)) e ∙ back b
  where
    back : (x : Result ℕ Refusal) → cond (eqb (tell_selected x).outcome 0) (Ok (tell_selected x).count) (Refused (tell_selected x).number (tell_selected x).place) ≡ x
    back (Ok n) = refl
    back (Err why) = refl

-- what was found was found
found-lost : {k : ℕ} → Some k ≡ None → ⊥
found-lost e = let wrong : ◌≡◌ {A = ℕ} 0 1 = cc in omega arith

-- what comes of a text and a dictionary is one thing
pub comes-unique : {text d : List ℕ} {t u : Told} {m n : List ℕ} → Comes text d t m → Comes text d u n → (t ≡ u) × (m ≡ n)
comes-unique (outside p a e f) (outside q b g h) = let same = outside-unique a b in (e ∙ ap (λ x. tell_selected (Refused 27 x)) same ∙ sym g, f ∙ sym h)
comes-unique (outside p a e f) (unsound k i b g h) = absurd (clear i a.outside)
comes-unique (outside p a e f) (unknown q i s b g h) = absurd (clear i a.outside)
comes-unique (outside p a e f) (path i s b g h) = absurd (clear i a.outside)
comes-unique (unsound k i a e f) (outside q b g h) = absurd (clear i b.outside)
comes-unique (unsound k i a e f) (unsound j l b g h) = let same : k ≡ j = cc in (e ∙ ap (λ x. tell_selected (Refused 31 x)) same ∙ sym g, f ∙ sym h)
comes-unique (unsound k i a e f) (unknown q l s b g h) = absurd (found-lost (sym a ∙ s))
comes-unique (unsound k i a e f) (path l s b g h) = absurd (found-lost (sym a ∙ s))
comes-unique (unknown p i s a e f) (outside q b g h) = absurd (clear i b.outside)
comes-unique (unknown p i s a e f) (unsound j l b g h) = absurd (found-lost (sym b ∙ s))
comes-unique (unknown p i s a e f) (unknown q l t b g h) = let same : p ≡ q = cc in (e ∙ ap (λ x. tell_selected (Refused 28 x)) same ∙ sym g, f ∙ sym h)
comes-unique (unknown p i s a e f) (path l t b g h) = absurd (found-lost (sym a ∙ b))
comes-unique (path i s a e f) (outside q b g h) = absurd (clear i b.outside)
comes-unique (path i s a e f) (unsound j l b g h) = absurd (found-lost (sym b ∙ s))
comes-unique (path i s a e f) (unknown q l t b g h) = absurd (found-lost (sym b ∙ a))
comes-unique (path i s a e f) (path l t b g h) = (e ∙ sym g, f ∙ sym h)

-- a result of an answer and the numbers beside it
abbrev pub selector_of : Result ℕ Refusal → List ℕ → Selector
selector_of a numbers = record { answer = a; path = numbers }

-- two results are equal
pub selector_unique : {text d : List ℕ} (r s : Selector) → SelectorPromise text d r → SelectorPromise text d s → r ≡ s
selector_unique r s p q =
    let same = comes-unique p q in
    ap (λ a. selector_of a r.path) (told-unique r.answer s.answer same.0) ∙ ap (selector_of s.answer) same.1
