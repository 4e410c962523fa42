-- The scan of a text is right: where it stops at a place the text is outside the profile at that place, else the text is in the profile.
use mathlib.Core.Path.{◌≡◌, refl, ◌∙◌}
use mathlib.Core.Logic.{◌⊎◌, inl, inr}
use mathlib.Core.Bool.{Bool, true, false, ◌&&◌, ◌||◌, cond}
use mathlib.Core.List.{List, [], ◌∷◌, ◌++◌, append_assoc, append-nil}
use Prim.Native.Nat.{ℕ, zero, suc, ◌-◌, ◌≤◌, ◌<◌}
use native.Mathlib.Omega.{arith}
use borrow.Author.Tests.{eqb-true, ltb-true, ltb-false, le-leb, lt-leb, leb-true, leb-false}
use lib.Dec.{eqb, leb, ltb}
use lib.ListN.{length, take, length-append}
use lib.Seq.{take_all, take-append-le, take_at, append_snoc}
use Rattle.meaning.specs.Walk.{Found}
use Rattle.std.specs.Prelude.{Some, None}
use Rattle.meaning.proofs.Basics.{clear, never, le_or_lt}
use Rattle.selectors.specs.Parts.{up_to, later, each, same}
use Rattle.selectors.specs.Profile.{is_letter, is_first, is_inner, is_name, is_star, is_step, in_profile, Begins, Hopeless, Outside}
use Rattle.selectors.specs.Scan.{after, left_after, scan}

-- what the rest of a step may be in each phase: a whole step, more of a name, nothing
unfoldable head_fits : ℕ → List ℕ → Bool
head_fits zero s = is_step s
head_fits (suc zero) s = each is_inner s
head_fits (suc (suc zero)) s = same s []
head_fits (suc (suc (suc k))) s = false

-- the rest of a text in a phase, with so many steps from this one on
unfoldable fits : ℕ → ℕ → List ℕ → Bool
fits phase left s = head_fits phase (up_to 47 s) && each is_step (later 47 s) && leb (suc (length (later 47 s))) left

-- a whole text
whole : (text : List ℕ) → in_profile text ≡ fits 0 8 text
unfolding in_profile fits each head_fits
whole text = refl

-- a slash is in no step
slash_out : (is_first 47 ≡ false) × (is_inner 47 ≡ false)
unfolding is_first is_inner is_letter
slash_out = (refl, refl)

-- a star begins no name
star_out : is_first 42 ≡ false
unfolding is_first is_letter
star_out = refl

-- the step to the next byte, where that is no slash: the head has one byte more
module _ (x : ℕ) (xs : List ℕ) where
  head_on : eqb x 47 ≡ false → up_to 47 (x ∷ xs) ≡ x ∷ up_to 47 xs
  unfolding up_to
  head_on e = rw e

  later-on : eqb x 47 ≡ false → later 47 (x ∷ xs) ≡ later 47 xs
  unfolding later
  later-on e = rw e

-- a slash ends the head
module _ (xs : List ℕ) where
  head_slash : up_to 47 (47 ∷ xs) ≡ []
  unfolding up_to
  head_slash = refl

  later-slash : later 47 (47 ∷ xs) ≡ up_to 47 xs ∷ later 47 xs
  unfolding later
  later-slash = refl

-- a test that is joined to one that fails fails
and_none : (a : Bool) → a && false ≡ false
and_none true = refl
and_none false = refl

-- a test beside one that fails
or_none : (a : Bool) → a || false ≡ a
or_none true = refl
or_none false = refl

-- one step more, of one more that there may be
one_more : (n left : ℕ) → 1 < left → leb (suc (suc n)) left ≡ leb (suc n) (left - 1)
one_more n left h = go (leb (suc n) (left - 1)) refl
  where
    go : (t : Bool) → leb (suc n) (left - 1) ≡ t → leb (suc (suc n)) left ≡ t
    go true e = le-leb (suc (suc n)) left (omega (arith, leb-true (suc n) (left - 1) e))
    go false e = lt-leb (suc (suc n)) left (omega (arith, leb-false (suc n) (left - 1) e))

-- behind a slash a step begins, if there may be one more; a head that may end here passes
slash_on : (xs : List ℕ) (phase left : ℕ) → head_fits phase [] ≡ true → 1 ≤ left
    → fits phase left (47 ∷ xs) ≡ fits (cond (ltb 1 left) 0 3) (left_after (cond (ltb 1 left) 0 3) left) xs
unfolding fits left_after each head_fits
slash_on xs phase left ends some = go (ltb 1 left) refl
  where
    go : (t : Bool) → ltb 1 left ≡ t → fits phase left (47 ∷ xs) ≡ fits (cond t 0 3) (left_after (cond t 0 3) left) xs
    go true e = rw (head_slash xs, later-slash xs, ends, one_more (length (later 47 xs)) left (ltb-true 1 left e))
    go false e =
        let few : leb (suc (suc (length (later 47 xs)))) left ≡ false = lt-leb (suc (suc (length (later 47 xs)))) left (omega (arith, ltb-false 1 left e)) in
        rw (head_slash xs, later-slash xs, ends, few) (and_none (is_step (up_to 47 xs) && each is_step (later 47 xs)))

-- the byte behind which the head goes on
module _ (xs : List ℕ) (left x : ℕ) where
  -- ahead of a step
  ahead_on : fits 0 left (x ∷ xs) ≡ fits (after 0 left x) (left_after (after 0 left x) left) xs
  unfolding fits after left_after head_fits is_step is_star is_name same each
  ahead_on = slash (eqb x 47) refl
    where
      name : is_first x ≡ true → eqb x 47 ≡ false → fits 0 left (x ∷ xs) ≡ fits 1 left xs
      name f e =
          let star : eqb x 42 ≡ false = never (eqb x 42) (λ s. clear f (rw (eqb-true x 42 s) star_out)) in
          rw (head_on x xs e, later-on x xs e, star, f)

      star : is_first x ≡ false → eqb x 42 ≡ true → eqb x 47 ≡ false → fits 0 left (x ∷ xs) ≡ fits 2 left xs
      star f s e = rw (head_on x xs e, later-on x xs e, s, f, or_none (same (up_to 47 xs) []))

      none : is_first x ≡ false → eqb x 42 ≡ false → eqb x 47 ≡ false → fits 0 left (x ∷ xs) ≡ false
      none f s e = rw (head_on x xs e, later-on x xs e, s, f)

      byte : (a b : Bool) → is_first x ≡ a → eqb x 42 ≡ b → eqb x 47 ≡ false
          → fits 0 left (x ∷ xs) ≡ fits (cond a 1 (cond b 2 3)) (left_after (cond a 1 (cond b 2 3)) left) xs
      byte true b f s e = name f e
      byte false true f s e = star f s e
      byte false false f s e = none f s e

      slash : (t : Bool) → eqb x 47 ≡ t → fits 0 left (x ∷ xs) ≡ fits (after 0 left x) (left_after (after 0 left x) left) xs
      slash true e = rw (eqb-true x 47 e, head_slash xs, slash_out.0)
      slash false e = byte (is_first x) (eqb x 42) refl refl e

  -- in a name
  name-on : 1 ≤ left → fits 1 left (x ∷ xs) ≡ fits (after 1 left x) (left_after (after 1 left x) left) xs
  unfolding fits after left_after head_fits each
  name-on some = slash (eqb x 47) refl
    where
      byte : (a : Bool) → is_inner x ≡ a → eqb x 47 ≡ false → fits 1 left (x ∷ xs) ≡ fits (cond a 1 3) (left_after (cond a 1 3) left) xs
      byte true f e = rw (head_on x xs e, later-on x xs e, f)
      byte false f e = rw (head_on x xs e, later-on x xs e, f)

      slash : (t : Bool) → eqb x 47 ≡ t → fits 1 left (x ∷ xs) ≡ fits (after 1 left x) (left_after (after 1 left x) left) xs
      slash true e = rw (eqb-true x 47 e) (slash_on xs 1 left refl some)
      slash false e = rw e (byte (is_inner x) refl e)

  -- behind a star
  star_on : 1 ≤ left → fits 2 left (x ∷ xs) ≡ fits (after 2 left x) (left_after (after 2 left x) left) xs
  unfolding fits after left_after head_fits same each
  star_on some = slash (eqb x 47) refl
    where
      slash : (t : Bool) → eqb x 47 ≡ t → fits 2 left (x ∷ xs) ≡ fits (after 2 left x) (left_after (after 2 left x) left) xs
      slash true e = rw (eqb-true x 47 e) (slash_on xs 2 left refl some)
      slash false e = rw (e, head_on x xs e)

-- where a text can be within a step, and that it may have a step from here on
pub record Phase (phase left : ℕ) : Type 0 where
  pub three : phase < 3
  pub some : 1 ≤ left

-- what a text may be from here on is what it may be behind the next byte
byte-on : (phase left : ℕ) → Phase phase left → (x : ℕ) (xs : List ℕ)
    → fits phase left (x ∷ xs) ≡ fits (after phase left x) (left_after (after phase left x) left) xs
byte-on zero left h x xs = ahead_on xs left x
byte-on (suc zero) left h x xs = name-on xs left x h.some
byte-on (suc (suc zero)) left h x xs = star_on xs left x h.some
byte-on (suc (suc (suc k))) left h x xs = absurd (omega (arith, h.three))

-- where the byte may follow there is a phase behind it, and a step may come
phase_on : (phase left : ℕ) → Phase phase left → (x : ℕ) → eqb (after phase left x) 3 ≡ false → Phase (after phase left x) (left_after (after phase left x) left)
unfolding after left_after
phase_on phase left h x e = go (eqb phase 0) (is_first x) (eqb x 42) (eqb x 47) (ltb 1 left) (eqb phase 1) (is_inner x) refl e
  where
    go : (p f s c l n i : Bool) → ltb 1 left ≡ l
        → eqb (cond p (cond f 1 (cond s 2 3)) (cond c (cond l 0 3) (cond n (cond i 1 3) 3))) 3 ≡ false
        → Phase (cond p (cond f 1 (cond s 2 3)) (cond c (cond l 0 3) (cond n (cond i 1 3) 3)))
        (left_after (cond p (cond f 1 (cond s 2 3)) (cond c (cond l 0 3) (cond n (cond i 1 3) 3))) left)
    go true true s c l n i many d = record { three = omega arith; some = h.some }
    go true false true c l n i many d = record { three = omega arith; some = h.some }
    go true false false c l n i many d = absurd (clear refl d)
    go false f s true true n i many d = record { three = omega arith; some = omega (arith, ltb-true 1 left many) }
    go false f s true false n i many d = absurd (clear refl d)
    go false f s false l true true many d = record { three = omega arith; some = h.some }
    go false f s false l true false many d = absurd (clear refl d)
    go false f s false l false i many d = absurd (clear refl d)

-- from every phase on there is a text
live : (phase left : ℕ) → Phase phase left → (rest : List ℕ) × (fits phase left rest ≡ true)
unfolding fits head_fits is_step is_star is_name is_first is_letter same each up_to later
live zero left h = (97 ∷ [], le-leb 1 left h.some)
live (suc zero) left h = ([], le-leb 1 left h.some)
live (suc (suc zero)) left h = ([], le-leb 1 left h.some)
live (suc (suc (suc k))) left h = absurd (omega (arith, h.three))

-- these bytes lead to a phase: what may stand behind them, and that every beginning of them is that of some text
record Reached (pre : List ℕ) (phase left : ℕ) : Type 0 where
  within : Phase phase left
  rest : (s : List ℕ) → in_profile (pre ++ s) ≡ fits phase left s
  begun : (k : ℕ) → k < length pre → Begins (take (suc k) pre)

-- no byte yet
reached-none : Reached [] 0 8
reached-none = record { within = record { three = omega arith; some = omega arith }; rest = whole; begun = λ k h. absurd (omega arith) }

-- one byte more, that may follow
reached-more : (pre : List ℕ) (phase left x : ℕ) → Reached pre phase left → eqb (after phase left x) 3 ≡ false
    → Reached (pre ++ (x ∷ [])) (after phase left x) (left_after (after phase left x) left)
reached-more pre phase left x r e =
    let next = phase_on phase left r.within x e in
    record { within = next; rest = rest; begun = begun (live (after phase left x) (left_after (after phase left x) left) next) }
  where
    rest : (s : List ℕ) → in_profile ((pre ++ (x ∷ [])) ++ s) ≡ fits (after phase left x) (left_after (after phase left x) left) s
    rest s = rw (append_assoc pre (x ∷ []) s) (r.rest (x ∷ s) ∙ byte-on phase left r.within x s)

    begun : (rest : List ℕ) × (fits (after phase left x) (left_after (after phase left x) left) rest ≡ true)
        → (k : ℕ) → k < length (pre ++ (x ∷ [])) → Begins (take (suc k) (pre ++ (x ∷ [])))
    begun (s, f) k h = at (le_or_lt (suc k) (length pre))
      where
        at : (suc k ≤ length pre) ⊎ (length pre < suc k) → Begins (take (suc k) (pre ++ (x ∷ [])))
        at (inl low) = rw (take-append-le (suc k) pre (x ∷ []) low) (r.begun k (omega arith))
        at (inr high) =
            let all : take (suc k) (pre ++ (x ∷ [])) ≡ pre ++ (x ∷ []) = take_all (suc k) (pre ++ (x ∷ [])) (omega (arith, length-append pre (x ∷ []))) in
            rw all (s, rest s ∙ f)

-- no byte of what leads to a phase is hopeless
hopeful : (pre s : List ℕ) (phase left : ℕ) → Reached pre phase left → (k : ℕ) → k < length pre → Hopeless (pre ++ s) k → ⊥
hopeful pre s phase left r k h b =
    let same : take (suc k) (pre ++ s) ≡ take (suc k) pre = take-append-le (suc k) pre s (omega arith) in
    let begun : Begins (take (suc k) (pre ++ s)) = rw same (r.begun k h) in
    b.none begun

-- a byte that may not follow
stuck_out : (pre xs : List ℕ) (phase left x : ℕ) → Reached pre phase left → eqb (after phase left x) 3 ≡ true → Outside (pre ++ (x ∷ xs)) (length pre)
unfolding fits head_fits
stuck_out pre xs phase left x r e =
    record { outside = none xs; first = hopeful pre (x ∷ xs) phase left r; place = inl (record { inside = omega (arith, length-append pre (x ∷ xs)); none = hopeless }) }
  where
    none : (s : List ℕ) → in_profile (pre ++ (x ∷ s)) ≡ false
    none s = r.rest (x ∷ s) ∙ byte-on phase left r.within x s ∙ rw (eqb-true (after phase left x) 3 e)

    front : take (suc (length pre)) (pre ++ (x ∷ xs)) ≡ pre ++ (x ∷ [])
    front =
        let long : length (pre ++ (x ∷ [])) ≡ suc (length pre) = omega (arith, length-append pre (x ∷ [])) in
        rw (← append_snoc pre x xs) (take_at (pre ++ (x ∷ [])) xs (suc (length pre)) long)

    hopeless : Begins (take (suc (length pre)) (pre ++ (x ∷ xs))) → ⊥
    hopeless (s, f) =
        let here : in_profile ((pre ++ (x ∷ [])) ++ s) ≡ true = rw front at f in
        let there : in_profile (pre ++ (x ∷ s)) ≡ true = rw (append_assoc pre (x ∷ []) s) at here in
        clear there (none s)

-- a text that ends ahead of a step
ended-out : (pre : List ℕ) (left : ℕ) → Reached pre 0 left → Outside pre (length pre)
unfolding fits head_fits is_step is_star is_name same up_to
ended-out pre left r =
    record { outside = rw (append-nil pre) at (r.rest []); first = λ k h b. hopeful pre [] 0 left r k h (rw (append-nil pre) b); place = inr refl }

-- a text that ends elsewhere
ended-in : (pre : List ℕ) (phase left : ℕ) → Reached pre phase left → eqb phase 0 ≡ false → in_profile pre ≡ true
unfolding fits head_fits each same up_to later
ended-in pre phase left r e = rw (append-nil pre) at (r.rest [] ∙ ends phase r.within.three e)
  where
    ends : (q : ℕ) → q < 3 → eqb q 0 ≡ false → fits q left [] ≡ true
    ends zero h f = absurd (clear refl f)
    ends (suc zero) h f = le-leb 1 left r.within.some
    ends (suc (suc zero)) h f = le-leb 1 left r.within.some
    ends (suc (suc (suc k))) h f = absurd (omega arith)

-- what the scan's answer says of a text
abbrev pub Right : List ℕ → Found → Type 0
Right text (Some p) = Outside text p
Right text None = in_profile text ≡ true

-- the scan from a phase on
scan-on : (s pre : List ℕ) (phase left : ℕ) → Reached pre phase left → Right (pre ++ s) (scan phase left (length pre) s)
unfolding scan
scan-on [] pre phase left r = end (eqb phase 0) refl
  where
    end : (t : Bool) → eqb phase 0 ≡ t → Right (pre ++ []) (cond t (Some (length pre)) None)
    end true e = rw (append-nil pre) (ended-out pre left (rw (eqb-true phase 0 e) at r))
    end false e = rw (append-nil pre) (ended-in pre phase left r e)
scan-on (x ∷ xs) pre phase left r = go (eqb (after phase left x) 3) refl (λ e. scan-on xs (pre ++ (x ∷ [])) (after phase left x) (left_after (after phase left x) left) (reached-more pre phase left x r e))
  where
    next : ℕ → List ℕ → Found
    next = scan (after phase left x) (left_after (after phase left x) left)

    go : (t : Bool) → eqb (after phase left x) 3 ≡ t
        → (eqb (after phase left x) 3 ≡ false → Right ((pre ++ (x ∷ [])) ++ xs) (next (length (pre ++ (x ∷ []))) xs))
        → Right (pre ++ (x ∷ xs)) (cond t (Some (length pre)) (next (suc (length pre)) xs))
    go true e rest = stuck_out pre xs phase left x r e
    go false e rest =
        let long : length (pre ++ (x ∷ [])) ≡ suc (length pre) = omega (arith, length-append pre (x ∷ [])) in
        rw (append_assoc pre (x ∷ []) xs, long) at (rest e)

-- THE SCAN IS RIGHT
pub scan-right : (text : List ℕ) → Right text (scan 0 8 0 text)
scan-right text = scan-on text [] 0 8 reached-none
