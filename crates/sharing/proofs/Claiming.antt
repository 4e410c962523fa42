-- A walk down the chain of a row that makes its class the holder of its values: what it has left in the column, and what the answer still hangs on.
use mathlib.Core.Path.{◌≡◌, refl, sym, ◌∙◌}
use mathlib.Core.Logic.{⊎_elim}
use mathlib.Core.Bool.{Bool, true, false, ◌&&◌, ◌||◌, not, and-false, or-false}
use mathlib.Core.List.{List}
use Prim.Native.Nat.{ℕ, ◌-◌, ◌≤◌, ◌<◌}
use native.Mathlib.Omega.{arith}
use lib.Dec.{ltb, eqb}
use lib.ListN.{length, get_or, set}
use lib.Seq.{get_or-set_same, get_or-set_other}
use borrow.Author.Tests.{eqb-true, eqb-false, eq-eqb}
use Rattle.meaning.proofs.Basics.{went, clear, both, or_r}
use Rattle.day.specs.Row.{Chain}
use Rattle.sharing.specs.Row.{some_of, foreign, asks, lacking, Took, Claimed, Room}
use Rattle.sharing.proofs.Descent.{Down, Steps, none_left, all_left, stepped, one-there, down_start, down_next}
use Rattle.sharing.proofs.Laying.{Layed, layed_start, layed_end, layed_skip, layed_set}

-- one entry more has the class
module _ (mine : ℕ) (owners : List ℕ) (k : ℕ) (room : k < length owners) where
  -- what has it is not held by another, and neither was it before
  same_set : foreign owners mine k ≡ false → (y : ℕ) → foreign (set owners k mine) mine y ≡ foreign owners mine y
  same_set z y =
      ⊎_elim
      (λ i. let e : k ≡ y = eqb-true k y i in
      rw (sym e, get_or-set_same owners k mine 0 room, eq-eqb mine mine refl) (and-false (ltb 0 mine) ∙ sym z))
      (λ i. rw (get_or-set_other owners k y mine 0 (λ q. eqb-false k y i (sym q))))
      (went (eqb k y))

-- the record below `at` has a representative, which has an entry in the column
pub value_room : (n : ℕ) (lower ends reps column : List ℕ) → Room n lower ends reps column → (at : ℕ) → at ≤ n → 0 < at → {m : ℕ} → m ≡ length column
    → (at - 1 < length reps) × (get_or reps (at - 1) 0 < m)
value_room n lower ends reps column room at l h e =
    (omega (arith, room.rep_room), omega (arith, room.rep_low (at - 1) (omega arith), room.column_room, e))

-- one value, represented by x, which the code has as k
module _ (mine : ℕ) (owners : List ℕ) {k x : ℕ} (i : k ≡ x) where
  pub took_none : foreign owners mine k ≡ true → Took mine x owners owners true
  took_none e = record { answers = rw i at (sym e); kept = λ _. refl; put = λ z. absurd (clear refl z) }

  pub took_it : foreign owners mine k ≡ false → {owners' : List ℕ} → owners' ≡ set owners k mine → Took mine x owners owners' false
  took_it e w = record { answers = rw i at (sym e); kept = λ z. absurd (clear z refl); put = λ _. rw i at w }

-- the answer with one record apart, and with none left: m asks for a value, a is whether one is there, b whether one is held by another
last_one : (m : Bool) → m ≡ ((m && true) || false)
last_one true = refl
last_one false = refl

skip_one : (m a b : Bool) → ((m && not a) || b) ≡ ((m && not (a || false)) || (b || false))
skip_one m a b = rw (or-false a, or-false b)

take_one : (m a b : Bool) → ((false && not a) || b) ≡ ((m && not (a || true)) || (b || false))
take_one true true b = sym (or-false b)
take_one true false b = sym (or-false b)
take_one false a b = sym (or-false b)

module _ (p : ℕ → Bool) (n : ℕ) (rep : ℕ → ℕ) (needy : Bool) (mine past : ℕ) (lower owners : List ℕ) where
  -- present, and its value held by another class when the walk began
  abbrev held : ℕ → Bool
  held f = p f && foreign owners mine (rep f)

  -- the answer for what is left of the row below `at`
  abbrev answer : (ℕ → Bool) → ℕ → Bool → Bool
  answer row at bare = (bare && not (some_of at row p)) || some_of at row held

  -- the walk has come down to `at`: another class holds what it held when it began, and the answer hangs on what is left
  pub record Hangs (at : ℕ) (bare : Bool) (owners' : List ℕ) : Type 0 where
    pub same : (y : ℕ) → foreign owners' mine y ≡ foreign owners mine y
    pub left : (row : ℕ → Bool) → Chain row n past lower → answer row at bare ≡ answer row n needy

  -- and the class stands at what is represented above `at`
  abbrev pub Claiming : ℕ → Bool → List ℕ → Type 0
  Claiming at bare owners' = Down n past lower at × Layed p n rep mine past lower owners at owners' × Hangs at bare owners'

  pub claiming_start : (row : ℕ → Bool) × Chain row n past lower → Claiming past needy owners
  claiming_start some = (
    down_start n past lower some,
    layed_start p n rep mine past lower owners,
    record {
      same = λ y. refl;
      left = λ row ch. rw (all_left n past lower row ch p, all_left n past lower row ch held);
    },
  )

  module _ (at : ℕ) (bare : Bool) (owners' : List ℕ) (s : Claiming at bare owners') where
    abbrev Ends : (ℕ → Bool) → Bool → Type 0
    Ends row = Claimed p n rep row needy mine owners owners'

    -- the walk is at its end
    pub claiming_end : at ≤ 0 → (row : ℕ → Bool) → Chain row n past lower → Ends row bare
    unfolding lacking asks
    claiming_end h row ch =
        record {
          answers = last_one bare ∙ rw (none_left row p at h, none_left row held at h) at (s.2.left row ch);
          left = λ _. layed_end p n rep mine past lower owners at owners' s.1 h row ch;
        }

    -- the record below `at`, represented by k
    module _ (h : 0 < at) (k : ℕ) (i : k ≡ rep (at - 1)) where
      held-there : (b : Bool) → foreign owners' mine k ≡ b → foreign owners mine (rep (at - 1)) ≡ b
      held-there b e = rw i at (sym (s.2.same k) ∙ e)

      -- it is present, and another class holds its value
      pub claiming_hit : p (at - 1) ≡ true → foreign owners' mine k ≡ true → (row : ℕ → Bool) → Chain row n past lower → Ends row true
      unfolding lacking asks
      claiming_hit y e row ch =
          let there = one-there n past lower at s.0 h _ refl row ch held (both (p (at - 1)) _ y (held-there true e)) in
          record {
            answers = sym (or_r (bare && not (some_of at row p)) (some_of at row held) there) ∙ s.2.left row ch;
            left = λ z. absurd (clear refl z);
          }

    module _ (some : (row : ℕ → Bool) × Chain row n past lower) (h : 0 < at) (next : ℕ) (step : next ≡ get_or lower (at - 1) 0) (bare'' : Bool) (owners'' : List ℕ) where
      down : Steps n past lower at next
      down = stepped n past lower at s.0 h next step

      -- the record below `at` is not present
      pub claiming_skip : p (at - 1) ≡ false → owners'' ≡ owners' → bare'' ≡ bare → Claiming next bare'' owners''
      claiming_skip z e b = (
        down_next n past lower some at s.0 h next step,
        layed_skip p n rep mine past lower owners at owners' s.1 next down z owners'' e,
        rw (e, b)
            (record {
              same = s.2.same;
              left = λ row ch. skip_one bare (some_of next row p) (some_of next row held) ∙ rw (down row ch p, down row ch held, z) at (s.2.left row ch);
            }),
      )

      -- it is, and no other class holds its value, which got this one
      pub claiming_take : p (at - 1) ≡ true → (k : ℕ) → k ≡ rep (at - 1) → foreign owners' mine k ≡ false → k < length owners'
          → owners'' ≡ set owners' k mine → bare'' ≡ false → Claiming next bare'' owners''
      claiming_take y k i z room e b = (
        down_next n past lower some at s.0 h next step,
        layed_set p n rep mine past lower owners at owners' s.1 next down y k i room owners'' e,
        rw (e, b)
            (record {
              same = λ x. same_set mine owners' k room z x ∙ s.2.same x;
              left = λ row ch. take_one bare (some_of next row p) (some_of next row held) ∙ rw (down row ch p, down row ch held, y, held-there h k i false z) at (s.2.left row ch);
            }),
      )
