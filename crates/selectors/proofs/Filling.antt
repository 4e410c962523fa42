-- The steps of a text looked up one after the other, and their numbers put into the path: none yet, one more, one that is unknown, all.
use mathlib.Core.Path.{◌≡◌, refl, sym, ap, ◌∙◌}
use mathlib.Core.Logic.{⊎_elim}
use mathlib.Core.Bool.{true, false}
use mathlib.Core.List.{List, [], ◌∷◌, ◌++◌, append_assoc, map}
use Prim.Native.Nat.{ℕ, suc, ◌+◌, ◌-◌, ◌≤◌, ◌<◌}
use native.Mathlib.Omega.{arith}
use borrow.Author.Tests.{leb-true, lt-ltb}
use lib.Dec.{ltb}
use lib.ListN.{length, take, drop, set, replicate, length-append, length-map, length-drop, length-set}
use lib.Seq.{set_at, drop-drop}
use Rattle.std.specs.Prelude.{Some, None, Ok, Result}
use Rattle.meaning.specs.Walk.{on_found, Found}
use Rattle.meaning.proofs.Basics.{went, and_r}
use Rattle.meaning.specs.declared.Refusal.{Refusal}
use Rattle.meaning.specs.Reading.{Refused}
use Rattle.selectors.specs.Parts.{up_to, later, parts, each}
use Rattle.selectors.specs.Profile.{is_star, is_step, steps, in_profile}
use Rattle.selectors.specs.Dictionary.{is_entry, number_in}
use Rattle.selectors.specs.Selecting.{is_known, step_number, unknown_from, path_of, no_path}
use Rattle.selectors.specs.Walking.{unknown, Filled, LooksUp}
use Rattle.selectors.proofs.Names.{known_number}
use Rattle.selectors.proofs.Stepping.{part_taken, part_last, part_next}

-- among lines that are entries a step is known exactly where its number is not 0
pub known : (ls : List (List ℕ)) (s : List ℕ) → each is_entry ls ≡ true → is_known ls s ≡ ltb 0 (step_number ls s)
unfolding is_known step_number
known ls s e = ⊎_elim (λ t. rw t refl) (λ t. rw t (known_number ls s e)) (went (is_star s))

-- the star's number is 65,535
pub step-star : (ls : List (List ℕ)) (s : List ℕ) → is_star s ≡ true → 65535 ≡ step_number ls s
unfolding step_number
step-star ls s e = rw e refl

-- the number of any other step is the one that the lines give its name
pub step-name : (ls : List (List ℕ)) (s : List ℕ) → is_star s ≡ false → number_in ls s ≡ step_number ls s
unfolding step_number
step-name ls s e = rw e refl

-- the numbers of n steps, and 0 in the places that are left, are their path
path-of_lem : (ls ss : List (List ℕ)) {n : ℕ} → length ss ≡ n → map (step_number ls) ss ++ replicate (8 - n) 0 ≡ path_of ls ss
unfolding path_of
path-of_lem ls ss e = rw e refl

-- a text of the profile has at most eight steps
pub few-steps : (text : List ℕ) → in_profile text ≡ true → length (steps text) ≤ 8
unfolding in_profile
few-steps text e = leb-true _ 8 (and_r (each is_step (steps text)) _ e)

-- one step more has one number more
map_more : (f : List ℕ → ℕ) (ss : List (List ℕ)) (s : List ℕ) → map f (ss ++ (s ∷ [])) ≡ map f ss ++ (f s ∷ [])
map_more f [] s = refl
map_more f (x ∷ ss) s = ap (λ l. f x ∷ l) (map_more f ss s)

-- what an answer of n steps, with numbers p beside it, comes of
module _ (n : ℕ) (p : List ℕ) where
  -- a refusal comes of a step that is unknown, and has no path
  answered_refused : (u : Found) {x i : ℕ} → Refused x i ≡ on_found u (Refused 28) (Ok n) → no_path ≡ on_found u (λ k. no_path) p
  answered_refused (Some k) e = refl
  answered_refused None e = let wrong : ◌≡◌ {A = ℕ} 0 1 = cc in absurd (omega arith)

  -- a path comes of steps that are all known
  answered_path : (u : Found) {m : ℕ} → Ok m ≡ on_found u (Refused 28) (Ok n) → p ≡ on_found u (λ k. no_path) p
  answered_path (Some k) e = let wrong : ◌≡◌ {A = ℕ} 0 1 = cc in absurd (omega arith)
  answered_path None e = refl

-- k steps of the text are done and their numbers stand in the path; the others begin at a place, and an unknown step is one of them
pub record Filling (text : List ℕ) (ls : List (List ℕ)) (path : List ℕ) (at k : ℕ) : Type 0 where
  pub inside : at ≤ length text
  pub long : length path ≡ 8
  pub done : List (List ℕ)
  pub many : length done ≡ k
  pub all : done ++ parts 47 (drop at text) ≡ steps text
  pub fares : unknown_from ls at (parts 47 (drop at text)) ≡ unknown_from ls 0 (steps text)
  pub numbers : path ≡ map (step_number ls) done ++ replicate (8 - k) 0

-- no step is done yet
pub filling_none : (text : List ℕ) (ls : List (List ℕ)) {path : List ℕ} → path ≡ no_path → Filling text ls path 0 0
filling_none text ls e = record { inside = omega arith; long = ap length e; done = []; many = refl; all = refl; fares = refl; numbers = e }

module _ {text : List ℕ} {ls : List (List ℕ)} {path : List ℕ} {at k : ℕ} (f : Filling text ls path at k) where
  -- a text of the profile leaves room for another number
  pub filling_room : in_profile text ≡ true → k < 8
  filling_room e = omega (arith, length-append f.done (parts 47 (drop at text)), ap length f.all, few-steps text e, f.many)

  -- storing the number of the next step makes the path one number longer
  numbers_more : k < 8 → (s : List ℕ) → set path k (step_number ls s) ≡ map (step_number ls) (f.done ++ (s ∷ [])) ++ replicate (8 - (k + 1)) 0
  numbers_more room s =
      let left : 8 - k ≡ suc (8 - (k + 1)) = omega arith in
      rw (f.numbers, left, map_more (step_number ls) f.done s, append_assoc (map (step_number ls) f.done) (step_number ls s ∷ []) (replicate (8 - (k + 1)) 0))
      (set_at (map (step_number ls) f.done) 0 (replicate (8 - (k + 1)) 0) (step_number ls s) k (length-map f.done (step_number ls) ∙ f.many))

  module _ {end number : ℕ} (ends : end ≡ at + length (up_to 47 (drop at text))) (gives : number ≡ step_number ls (take (end - at) (drop at text))) where
    -- the step that is looked up is the first of those that are left
    step_is : number ≡ step_number ls (up_to 47 (drop at text))
    step_is =
        let long : end - at ≡ length (up_to 47 (drop at text)) = omega arith in
        rw (long, part_taken 47 (drop at text)) at gives

    module _ (sound : each is_entry ls ≡ true) where
      -- where it is unknown it is the first that is
      fares_unknown : number ≡ 0 → unknown_from ls 0 (steps text) ≡ Some at
      unfolding unknown_from
      fares_unknown none =
          let lost : is_known ls (up_to 47 (drop at text)) ≡ false = known ls _ sound ∙ rw (← step_is, none) refl in
          rw lost at (sym f.fares)

      -- where it is known an unknown step is one of those behind it
      fares_on : (number ≡ 0 → ⊥) → unknown_from ls (end + 1) (later 47 (drop at text)) ≡ unknown_from ls 0 (steps text)
      unfolding unknown_from
      fares_on some =
          let here : is_known ls (up_to 47 (drop at text)) ≡ true = known ls _ sound ∙ rw (← step_is) (lt-ltb 0 number (omega arith)) in
          rw ends (rw here at f.fares)

      -- a step that is unknown ends the walk with 28 at its place
      pub filling_unknown : number ≡ 0 → Filled text ls (Refused 28 at) path
      filling_unknown none =
          record {
            answer = rw (fares_unknown none) refl;
            path = λ n g. let wrong : ◌≡◌ {A = ℕ} 0 1 = cc in absurd (omega arith);
          }

      -- behind the last step, if it is known, the path is whole
      pub filling_last : in_profile text ≡ true → (number ≡ 0 → ⊥) → end ≡ length text → Filled text ls (Ok (k + 1)) (set path k number)
      unfolding unknown_from
      filling_last few some past =
          let step = up_to 47 (drop at text) in
          let none : later 47 (drop at text) ≡ [] = part_last 47 (drop at text) (omega (arith, length-drop at text)) in
          let all : f.done ++ (step ∷ []) ≡ steps text = rw none at f.all in
          let fares : None ≡ unknown_from ls 0 (steps text) = rw none at (fares_on some) in
          let many : length (f.done ++ (step ∷ [])) ≡ k + 1 = omega (arith, length-append f.done (step ∷ []), f.many) in
          record {
            answer = rw (← fares) (ap Ok (sym many ∙ ap length all));
            path = λ n g. rw step_is (numbers_more (filling_room few) step ∙ path-of_lem ls (f.done ++ (step ∷ [])) many ∙ ap (path_of ls) all);
          }

      -- a known step with another behind it is done, and the walk goes on behind the slash
      pub filling_more : in_profile text ≡ true → (number ≡ 0 → ⊥) → end < length text → Filling text ls (set path k number) (end + 1) (k + 1)
      filling_more few some here =
          let next : parts 47 (drop (end + 1) text) ≡ later 47 (drop at text) =
          let place : end + 1 ≡ at + suc (length (up_to 47 (drop at text))) = omega arith in
          rw (place, ← drop-drop (suc (length (up_to 47 (drop at text)))) at text) (part_next 47 (drop at text) (omega (arith, length-drop at text))) in
          record {
            inside = omega arith;
            long = length-set path k number ∙ f.long;
            done = f.done ++ (up_to 47 (drop at text) ∷ []);
            many = omega (arith, length-append f.done (up_to 47 (drop at text) ∷ []), f.many);
            all = append_assoc f.done (up_to 47 (drop at text) ∷ []) (parts 47 (drop (end + 1) text)) ∙ rw next f.all;
            fares = rw next (fares_on some);
            numbers = rw step_is (numbers_more (filling_room few) (up_to 47 (drop at text)));
          }

module _ {text : List ℕ} {ls : List (List ℕ)} {r : Result ℕ Refusal} {numbers : List ℕ} (f : Filled text ls r numbers) where
  -- beside a refusal stands no path
  pub looks_refused : {x i : ℕ} → r ≡ Refused x i → LooksUp text ls (record { answer = r; path = no_path })
  looks_refused e = record { answer = f.answer; path = answered_refused (length (steps text)) (path_of ls (steps text)) (unknown text ls) (sym e ∙ f.answer) }

  -- beside a path stand its numbers
  pub looks_path : {n : ℕ} → r ≡ Ok n → LooksUp text ls (record { answer = r; path = numbers })
  looks_path {n} e = record { answer = f.answer; path = f.path n e ∙ answered_path (length (steps text)) (path_of ls (steps text)) (unknown text ls) (sym e ∙ f.answer) }
