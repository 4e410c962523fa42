-- The walk from row to row: the marks, or the holders, tell the values of the rows passed, a holder its class, and none of these rows offends.
use mathlib.Core.Path.{◌≡◌, refl, sym, ◌∙◌, ap}
use mathlib.Core.Logic.{⊎_elim}
use mathlib.Core.Bool.{Bool, true, false, ◌&&◌, ◌||◌, not, cond, or-false}
use mathlib.Core.List.{List}
use Prim.Native.Nat.{ℕ, suc, ◌≤◌, ◌<◌}
use native.Mathlib.Nat.{eq-or-lt_of_le}
use native.Mathlib.Omega.{arith}
use lib.Dec.{ltb, eqb}
use lib.ListN.{get_or}
use borrow.Author.Tests.{eqb-true, lt-ltb, le-ltb}
use Rattle.std.specs.Prelude.{Some, None}
use Rattle.meaning.specs.Walk.{any, first}
use Rattle.meaning.proofs.Basics.{went, le_or_lt, clear, tests_same, and_l, and_r, both, or_r, neither_r}
use Rattle.meaning.proofs.Walks.{any_none, any_some, any-true, any_false}
use Rattle.meaning.proofs.Loops.{any_last}
use Rattle.marks.specs.Marks.{marked}
use Rattle.marks.proofs.After.{Next}
use Rattle.day.proofs.Skipping.{any-skips}
use Rattle.sharing.specs.Row.{some_of, taken, foreign, asks, shows, lacking, Marked, Met}
use Rattle.sharing.specs.Table.{holder, rival, row_shares, row_misses}
use Rattle.sharing.proofs.Passing.{Come, come_to, Clean, clean_start, clean_step, found_at, found_none}

-- one of a row that is present, and has a representative that passes
pub record One (p : ℕ → Bool) (n : ℕ) (rep : ℕ → ℕ) (row test : ℕ → Bool) : Type 0 where
  pub at : ℕ
  pub low : at < n
  pub in-row : row at ≡ true
  pub here : p at ≡ true
  pub passes : test (rep at) ≡ true

module _ (p : ℕ → Bool) (n : ℕ) (rep : ℕ → ℕ) (row test : ℕ → Bool) where
  pub one-asked : asks p n rep row test ≡ true → One p n rep row test
  unfolding asks some_of
  one-asked e =
      let k = any-true (λ f. row f && (p f && test (rep f))) 0 n e in
      let f = k.0 in
      let b = and_r (row f) (p f && test (rep f)) k.1.passes in
      record { at = f; low = omega (arith, k.1.below); in-row = and_l (row f) _ k.1.passes; here = and_l (p f) _ b; passes = and_r (p f) _ b }

  pub asks-one : One p n rep row test → asks p n rep row test ≡ true
  unfolding asks some_of
  asks-one o =
      any_some (λ f. row f && (p f && test (rep f))) 0 n o.at
      (record { from = omega arith; below = omega (arith, o.low); passes = both (row o.at) _ o.in-row (both (p o.at) _ o.here o.passes) })

-- an entry that is a class counted from one or as it was
taken-by : (mine : ℕ) → 0 < mine → (b : Bool) (k : ℕ) → ltb 0 (cond b mine k) ≡ (ltb 0 k || b)
taken-by mine l true k = lt-ltb 0 mine l ∙ sym (or_r (ltb 0 k) true refl)
taken-by mine l false k = sym (or-false (ltb 0 k))

module _ (p : ℕ → Bool) (n : ℕ) (rep : ℕ → ℕ) (chosen : ℕ → Bool) (rows : ℕ → ℕ → Bool) where
  abbrev holds : ℕ → ℕ → Bool
  holds = holder p n rep chosen rows

  not_held : (y u : ℕ) → chosen u ≡ false → holds y u ≡ false
  unfolding holder
  not_held y u e = rw e

  held : (y u : ℕ) → chosen u ≡ true → holds y u ≡ (p u && shows p n rep (rows u) y)
  unfolding holder
  held y u e = rw e

  -- what is told are the values of the rows below v
  abbrev Seen : ℕ → (ℕ → Bool) → Type 0
  Seen v told = (y : ℕ) → told y ≡ any (holds y) 0 v

  seen_start : (start : ℕ) → Next chosen n 0 start → (told : ℕ → Bool) → ((y : ℕ) → told y ≡ false) → Seen start told
  seen_start start to told none y = none y ∙ sym (any_none (holds y) 0 start (λ u a b. not_held y u (to.before u a (omega arith))))

  seen_step : (v : ℕ) (told : ℕ → Bool) → Seen v told → chosen v ≡ true → (next : ℕ) → Next chosen n (suc v) next
      → (told' : ℕ → Bool) → ((y : ℕ) → told' y ≡ (told y || (p v && shows p n rep (rows v) y))) → Seen next told'
  seen_step v told s c next to told' more y =
      more y ∙ ap (λ b. b || (p v && shows p n rep (rows v) y)) (s y)
      ∙ sym (any-skips (holds y) (suc v) next to.from (λ u a b. not_held y u (to.before u a b)) ∙ any_last (holds y) v ∙ ap (λ b. any (holds y) 0 v || b) (held y v c))

  -- the walk has come to record v, and the marks tell the values below it
  pub record Told (v : ℕ) (marks : List ℕ) : Type 0 where
    pub come : Come n chosen v
    pub seen : Seen v (marked marks)

  pub told-start : (start : ℕ) → Next chosen n 0 start → (marks : List ℕ) → ((x : ℕ) → marked marks x ≡ false) → Told start marks
  told-start start to marks none = record { come = come_to n chosen 0 start to; seen = seen_start start to (marked marks) none }

  pub told-step : (v : ℕ) (marks : List ℕ) → Told v marks → v < n → (marks' : List ℕ) → Marked p n rep (rows v) v marks marks'
      → (next : ℕ) → Next chosen n (suc v) next → Told next marks'
  told-step v marks s h marks' met next to =
      record { come = come_to n chosen (suc v) next to; seen = seen_step v (marked marks) s.seen (s.come.is_chosen h) next to (marked marks') met.seen }

  -- at the end, they tell the values of all rows
  pub told-all : (v : ℕ) (marks : List ℕ) → Told v marks → n ≤ v → (y : ℕ) → marked marks y ≡ any (holds y) 0 n
  told-all v marks s h y = let e : v ≡ n = omega (arith, s.come.most) in s.seen y ∙ ap (any (holds y) 0) e

  -- the class of each record, counted from one, and whether a value is asked for
  module _ (class : ℕ → ℕ) (needy : Bool) where
    abbrev bad : ℕ → Bool
    bad = row_shares p n rep chosen rows class needy

    bad-chosen : (u : ℕ) → chosen u ≡ false → bad u ≡ false
    unfolding row_shares
    bad-chosen u e = rw e

    -- the walk has come to record v: no row below it offends, the holders tell the values there, and each is the class of all that hold it
    pub record Shared (v : ℕ) (owners : List ℕ) : Type 0 where
      pub come : Come n chosen v
      pub clean : Clean n chosen bad v
      pub seen : Seen v (taken owners)
      pub own : (y u : ℕ) → u < v → holds y u ≡ true → get_or owners y 0 ≡ class u

    pub shared_start : (start : ℕ) → Next chosen n 0 start → (owners : List ℕ) → ((x : ℕ) → get_or owners x 0 ≡ 0) → Shared start owners
    shared_start start to owners none =
        record {
          come = come_to n chosen 0 start to;
          clean = clean_start n chosen bad bad-chosen start to;
          seen = seen_start start to (taken owners) (λ y. le-ltb 0 (get_or owners y 0) (omega (arith, none y)));
          own = λ y u h i. absurd (clear i (not_held y u (to.before u (omega arith) h)));
        }

    pub shared_end : (v : ℕ) (owners : List ℕ) → Shared v owners → n ≤ v → None ≡ first bad 0 n
    shared_end v owners s h = found_none n chosen bad v h s.clean

    module _ (v : ℕ) (owners : List ℕ) (s : Shared v owners) where
      -- a value with a holder of another class is one that a rival holds
      rival-seen : asks p n rep (rows v) (foreign owners (class v)) ≡ true → any (rival p n rep chosen rows class v) 0 v ≡ true
      unfolding rival
      rival-seen e =
          let o = one-asked p n rep (rows v) (foreign owners (class v)) e in
          let x = rep o.at in
          let k = any-true (holds x) 0 v (sym (s.seen x) ∙ and_l (taken owners x) _ o.passes) in
          let u = k.0 in
          let h : u < v = omega (arith, k.1.below) in
          let other = and_r (taken owners x) (not (eqb (get_or owners x 0) (class v))) o.passes in
          any_some (rival p n rep chosen rows class v) 0 v u
          (record {
            from = omega arith;
            below = omega arith;
            passes =
                both (not (eqb (class u) (class v))) _ (rw (s.own x u h k.1.passes) at other)
                (asks-one p n rep (rows v) (λ z. holds z u) (record { at = o.at; low = o.low; in-row = o.in-row; here = o.here; passes = k.1.passes }));
          })

      seen-rival : any (rival p n rep chosen rows class v) 0 v ≡ true → asks p n rep (rows v) (foreign owners (class v)) ≡ true
      unfolding rival
      seen-rival e =
          let k = any-true (rival p n rep chosen rows class v) 0 v e in
          let u = k.0 in
          let h : u < v = omega (arith, k.1.below) in
          let other = and_l (not (eqb (class u) (class v))) (asks p n rep (rows v) (λ z. holds z u)) k.1.passes in
          let o = one-asked p n rep (rows v) (λ z. holds z u) (and_r (not (eqb (class u) (class v))) _ k.1.passes) in
          let x = rep o.at in
          asks-one p n rep (rows v) (foreign owners (class v))
          (record {
            at = o.at;
            low = o.low;
            in-row = o.in-row;
            here = o.here;
            passes =
                both (taken owners x) _ (s.seen x ∙ any_some (holds x) 0 v u (record { from = omega arith; below = omega arith; passes = o.passes }))
                (rw (s.own x u h o.passes) other);
          })

      rivals : asks p n rep (rows v) (foreign owners (class v)) ≡ any (rival p n rep chosen rows class v) 0 v
      rivals = tests_same _ _ rival-seen seen-rival

      -- the row of v was looked at
      module _ (h : v < n) (owners' : List ℕ) (answer : Bool) (met : Met p n rep (rows v) needy v (class v) owners owners' answer) where
        answer-is : bad v ≡ answer
        unfolding row_shares
        answer-is = rw (s.come.is_chosen h, sym rivals) (sym met.answers)

        pub shared_found : answer ≡ true → Some v ≡ first bad 0 n
        shared_found y = found_at n chosen bad v h s.clean (answer-is ∙ y)

        module _ (z : answer ≡ false) where
          -- a record below v that holds a value of the row of v has the class of v
          alike : (y u : ℕ) → u < v → holds y u ≡ true → p v && shows p n rep (rows v) y ≡ true → class v ≡ class u
          unfolding rival shows
          alike y u l i e =
              let o = one-asked p n rep (rows v) (λ x. eqb x y) (and_r (p v) _ e) in
              let x : rep o.at ≡ y = eqb-true (rep o.at) y o.passes in
              let held_by = asks-one p n rep (rows v) (λ w. holds w u) (record { at = o.at; low = o.low; in-row = o.in-row; here = o.here; passes = rw x i }) in
              let no : any (rival p n rep chosen rows class v) 0 v ≡ false = sym rivals ∙ neither_r (lacking p n rep (rows v) needy) _ (rw (and_l (p v) _ e) at (sym met.answers ∙ z)) in
              ⊎_elim
              (λ q. sym (eqb-true (class u) (class v) q))
              (λ q. absurd (clear (both (not (eqb (class u) (class v))) _ (rw q refl) held_by) (any_false (rival p n rep chosen rows class v) 0 v no u (omega arith) (omega arith))))
              (went (eqb (class u) (class v)))

          -- what the row of v holds is its own, and the rest is as before
          own-next : (y u : ℕ) → u ≤ v → holds y u ≡ true → get_or owners' y 0 ≡ class u
          own-next y u l i =
              met.left z y
              ∙ ⊎_elim
              (λ q.
              let e : p v && shows p n rep (rows v) y ≡ true = sym (held y v (s.come.is_chosen h)) ∙ ap (holds y) (sym q) ∙ i in
              rw e (ap class (sym q)))
              (λ (m : u < v).
              ⊎_elim
              (λ e. rw e (alike y u m i e))
              (λ e. rw e (s.own y u m i))
              (went (p v && shows p n rep (rows v) y)))
              (eq-or-lt_of_le l)

          pub shared_step : 0 < class v → (next : ℕ) → Next chosen n (suc v) next → Shared next owners'
          shared_step l next to =
              record {
                come = come_to n chosen (suc v) next to;
                clean = clean_step n chosen bad bad-chosen v s.clean (answer-is ∙ z) next to;
                seen =
                    seen_step v (taken owners) s.seen (s.come.is_chosen h) next to (taken owners')
                    (λ y. ap (ltb 0) (met.left z y) ∙ taken-by (class v) l _ (get_or owners y 0));
                own =
                    λ y u k i.
                    ⊎_elim
                    (λ (a : u ≤ v). own-next y u a i)
                    (λ (b : v < u). absurd (clear i (not_held y u (to.before u (omega arith) k))))
                    (le_or_lt u v);
              }

  -- the rows of a reference, what is known being fixed
  module _ (known : ℕ → Bool) where
    abbrev missing : ℕ → Bool
    missing = row_misses p n rep chosen rows known

    missing_chosen : (u : ℕ) → chosen u ≡ false → missing u ≡ false
    unfolding row_misses
    missing_chosen u e = rw e

    -- the walk has come to record v, and no row below it has a value that is not known
    pub record Missed (v : ℕ) : Type 0 where
      pub come : Come n chosen v
      pub clean : Clean n chosen missing v

    pub missed-start : (start : ℕ) → Next chosen n 0 start → Missed start
    missed-start start to = record { come = come_to n chosen 0 start to; clean = clean_start n chosen missing missing_chosen start to }

    pub missed-end : (v : ℕ) → Missed v → n ≤ v → None ≡ first missing 0 n
    missed-end v s h = found_none n chosen missing v h s.clean

    module _ (v : ℕ) (s : Missed v) (h : v < n) (answer : Bool) (e : answer ≡ (p v && asks p n rep (rows v) (λ x. not (known x)))) where
      answered : missing v ≡ answer
      unfolding row_misses
      answered = rw (s.come.is_chosen h) (sym e)

      pub missed-found : answer ≡ true → Some v ≡ first missing 0 n
      missed-found y = found_at n chosen missing v h s.clean (answered ∙ y)

      pub missed-step : answer ≡ false → (next : ℕ) → Next chosen n (suc v) next → Missed next
      missed-step z next to =
          record { come = come_to n chosen (suc v) next to; clean = clean_step n chosen missing missing_chosen v s.clean (answered ∙ z) next to }
