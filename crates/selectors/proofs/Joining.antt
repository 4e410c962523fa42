-- Texts of the profile, told the other way round: a text is in it exactly when it is one to eight steps joined by slashes.
use mathlib.Core.Path.{◌≡◌, refl, ap, ◌∙◌}
use mathlib.Core.Logic.{◌↔◌, ⊎_elim}
use mathlib.Core.Bool.{true}
use mathlib.Core.List.{List, [], ◌∷◌, ◌++◌}
use Prim.Native.Nat.{ℕ, ◌≤◌}
use native.Mathlib.Omega.{arith}
use borrow.Author.Tests.{eqb-true, le-leb, leb-true}
use lib.Dec.{eqb, leb}
use lib.ListN.{length}
use Rattle.meaning.proofs.Basics.{went, and_l, and_r, both, or_cases}
use Rattle.selectors.specs.Parts.{up_to, later, parts, each}
use Rattle.selectors.specs.Profile.{is_letter, is_inner, is_name, is_star, is_step, steps, in_profile}
use Rattle.selectors.proofs.Separating.{other, each-other, first-joined, later-joined, first-all, later-all}
use Rattle.selectors.proofs.Sameness.{same-equal}
use Rattle.selectors.proofs.Runs.{name-inner}

-- texts joined by a separator
unfoldable pub joined : ℕ → List (List ℕ) → List ℕ
joined sep [] = []
joined sep (s ∷ []) = s
joined sep (s ∷ t ∷ ss) = s ++ (sep ∷ joined sep (t ∷ ss))

-- one byte ahead of joined texts is one byte ahead of the first
ahead : (sep x : ℕ) (s : List ℕ) (ss : List (List ℕ)) → joined sep ((x ∷ s) ∷ ss) ≡ x ∷ joined sep (s ∷ ss)
unfolding joined
ahead sep x s [] = refl
ahead sep x s (t ∷ ss) = refl

-- the parts of a text, joined, are the text
pub joined-parts : (sep : ℕ) (s : List ℕ) → joined sep (parts sep s) ≡ s
unfolding joined up_to later
joined-parts sep [] = refl
joined-parts sep (x ∷ s) =
    ⊎_elim
    (λ t. rw t (rw (← eqb-true x sep t) (ap (λ l. x ∷ l) (joined-parts sep s))))
    (λ t. rw t (ahead sep x (up_to sep s) (later sep s) ∙ ap (λ l. x ∷ l) (joined-parts sep s)))
    (went (eqb x sep))

-- a name has no slash
name_free : (s : List ℕ) → is_name s ≡ true → each (other 47) s ≡ true
unfolding is_inner is_letter
name_free s e = each-other is_inner 47 refl s (name-inner s e)

-- nor has a step
step-free : (s : List ℕ) → is_step s ≡ true → each (other 47) s ≡ true
unfolding is_step is_star each
step-free s e = ⊎_elim (λ star. rw (same-equal s (42 ∷ []) star)) (λ name. name_free s name) (or_cases (is_star s) (is_name s) e)

-- steps, joined, have these parts
parts-joined : (s : List ℕ) (ss : List (List ℕ)) → each is_step (s ∷ ss) ≡ true → parts 47 (joined 47 (s ∷ ss)) ≡ s ∷ ss
unfolding joined each
parts-joined s [] e =
    let free = step-free s (and_l (is_step s) true e) in
    rw (first-all 47 s free, later-all 47 s free)
parts-joined s (t ∷ ss) e =
    let free = step-free s (and_l (is_step s) (each is_step (t ∷ ss)) e) in
    let rest = joined 47 (t ∷ ss) in
    rw (first-joined 47 s rest free, later-joined 47 s rest free) (ap (λ l. s ∷ l) (parts-joined t ss (and_r (is_step s) (each is_step (t ∷ ss)) e)))

-- one to eight steps, joined by slashes
pub record Joined (text : List ℕ) : Type 0 where
  pub all : List (List ℕ)
  pub some : 1 ≤ length all
  pub few : length all ≤ 8
  pub sound : each is_step all ≡ true
  pub spelled : joined 47 all ≡ text

-- A TEXT IS IN THE PROFILE exactly when it is one to eight steps joined by slashes
pub profile_joined : (text : List ℕ) → (in_profile text ≡ true) ↔ Joined text
unfolding in_profile
profile_joined text = (apart, together)
  where
    apart : in_profile text ≡ true → Joined text
    apart e =
        record {
          all = steps text;
          some = omega arith;
          few = leb-true (length (steps text)) 8 (and_r (each is_step (steps text)) (leb (length (steps text)) 8) e);
          sound = and_l (each is_step (steps text)) (leb (length (steps text)) 8) e;
          spelled = joined-parts 47 text;
        }

    these : (ss : List (List ℕ)) → 1 ≤ length ss → each is_step ss ≡ true → joined 47 ss ≡ text → steps text ≡ ss
    these [] h e f = absurd (omega arith)
    these (s ∷ ss) h e f = rw (← f) (parts-joined s ss e)

    together : Joined text → in_profile text ≡ true
    together j =
        let same : steps text ≡ j.all = these j.all j.some j.sound j.spelled in
        let few : length (steps text) ≤ 8 = omega (arith, ap length same, j.few) in
        both (each is_step (steps text)) (leb (length (steps text)) 8) (ap (each is_step) same ∙ j.sound) (le-leb (length (steps text)) 8 few)
