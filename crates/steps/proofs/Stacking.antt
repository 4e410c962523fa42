-- The way down a stack passes over nothing that is sought, and how one more member is put on.
use mathlib.Core.Path.{◌≡◌, refl, sym, ◌∙◌, ap}
use mathlib.Core.Logic.{◌⊎◌, ⊎_elim}
use mathlib.Core.Bool.{Bool, true, false}
use mathlib.Core.List.{List}
use Prim.Native.Nat.{ℕ, zero, suc, ◌+◌, ◌-◌, ◌≤◌, ◌<◌}
use native.Mathlib.Omega.{arith}
use lib.Dec.{eqb, ltb}
use lib.ListN.{length, get_or, set}
use borrow.Author.Tests.{eqb-true, eqb-false, ltb-false, eq-eqb, ne_eqb, lt-ltb, le-ltb}
use Rattle.meaning.proofs.Basics.{went, le_or_lt, clear}
use Rattle.columns.specs.Chains.{past_last}
use Rattle.columns.proofs.Along.{past-low, past-in}
use Rattle.prepare.proofs.Filling.{Filled, filled_none, filled-store}
use Rattle.steps.specs.Greatest.{Chain}
use Rattle.steps.specs.Stacks.{Latest, Over, Leads, Stacked, Built, level_at, hop, onward}

-- what stands at a place counted from one
pub hop-none : (column : List ℕ) (place : ℕ) → place ≡ 0 → 0 ≡ hop column place
unfolding hop
hop-none column place e = rw (eq-eqb place 0 e)

pub hop-some : (column : List ℕ) (place : ℕ) → (place ≡ 0 → ⊥) → (i : ℕ) → i ≡ place → get_or column (i - 1) 0 ≡ hop column place
unfolding hop
hop-some column place n i e = rw (ne_eqb place 0 n, e)

hop-cases : (column : List ℕ) (place : ℕ) (P : ℕ → Type 0) → P 0 → (0 < place → P (get_or column (place - 1) 0)) → P (hop column place)
hop-cases column place P a b =
    ⊎_elim
    (λ (y : eqb place 0 ≡ true). rw (sym (hop-none column place (eqb-true place 0 y))) a)
    (λ (n : eqb place 0 ≡ false).
    let some : place ≡ 0 → ⊥ = eqb-false place 0 n in
    rw (sym (hop-some column place some place refl)) (b (omega arith)))
    (went (eqb place 0))

pub hop-low : (n : ℕ) (column : List ℕ) (place : ℕ) → Leads n column → place ≤ n → hop column place ≤ place
hop-low n column place l h = hop-cases column place (λ x. x ≤ place) (omega arith) (λ p. omega (arith, l.low (place - 1) (omega arith)))

-- the next place on the way down, by each way of finding it
module _ (levels : List ℕ) (below leap bound : ℕ) where
  pub on_none : leap ≡ 0 → below ≡ onward levels below leap bound
  unfolding onward
  on_none e = rw (eq-eqb leap 0 e)

  module _ (some : leap ≡ 0 → ⊥) (i : ℕ) (e : i ≡ leap) where
    pub on_step : get_or levels (i - 1) 0 < bound → below ≡ onward levels below leap bound
    unfolding onward
    on_step h = rw (ne_eqb leap 0 some, lt-ltb (get_or levels (leap - 1) 0) bound (rw e at h))

    pub on-leap : bound ≤ get_or levels (i - 1) 0 → leap ≡ onward levels below leap bound
    unfolding onward
    on-leap h = rw (ne_eqb leap 0 some, le-ltb (get_or levels (leap - 1) 0) bound (rw e at h))

-- it is the step, or a leap that comes down on one that is not below the bound
pub onward-cases : (levels : List ℕ) (below leap bound : ℕ) (P : ℕ → Type 0) → P below → (0 < leap → bound ≤ get_or levels (leap - 1) 0 → P leap) → P (onward levels below leap bound)
unfolding onward
onward-cases levels below leap bound P s l =
    ⊎_elim
    (λ (y : eqb leap 0 ≡ true). rw y s)
    (λ (n : eqb leap 0 ≡ false).
    let some : leap ≡ 0 → ⊥ = eqb-false leap 0 n in
    ⊎_elim
    (λ (y : ltb (get_or levels (leap - 1) 0) bound ≡ true). rw (n, y) s)
    (λ (z : ltb (get_or levels (leap - 1) 0) bound ≡ false). rw (n, z) (l (omega arith) (ltb-false (get_or levels (leap - 1) 0) bound z)))
    (went (ltb (get_or levels (leap - 1) 0) bound)))
    (went (eqb leap 0))

-- so it lies before where it is looked from
pub onward-low : (levels : List ℕ) (below leap bound j next : ℕ) → below ≤ j → leap ≤ j → next ≡ onward levels below leap bound → next ≤ j
onward-low levels below leap bound j next a b e = rw e (onward-cases levels below leap bound (λ x. x ≤ j) a (λ p q. b))

module _ (member : ℕ → Bool) (level : ℕ → ℕ) where
  -- the way down from `start` has come to the member before `at`, or to none; what it passed over is not below the bound
  pub record Down (bound start at : ℕ) : Type 0 where
    pub low : at ≤ start
    pub passed : 0 < at → member (at - 1) ≡ true
    pub none : (i : ℕ) → at ≤ i → i < start → member i ≡ true → bound ≤ level i

  pub down_start : (bound start : ℕ) → (0 < start → member (start - 1) ≡ true) → Down bound start start
  down_start bound start p = record { low = omega arith; passed = p; none = λ i a b. absurd (omega arith) }

  module _ (bound start at : ℕ) (s : Down bound start at) where
    pub down_end : at ≤ 0 → Latest member level bound start 0
    down_end h = record { low = omega arith; passed = λ p. absurd (omega arith); under = λ p. absurd (omega arith); none = λ i a b m. s.none i (omega arith) b m }

    pub down_hit : (i : ℕ) → i ≡ at → level (i - 1) < bound → Latest member level bound start at
    down_hit i e h = let l : level (at - 1) < bound = rw e at h in record { low = s.low; passed = s.passed; under = λ p. l; none = s.none }

    module _ (h : 0 < at) (high : bound ≤ level (at - 1)) where
      -- on to a place before this one, past none that is below the bound
      down_on : (next : ℕ) → next ≤ at - 1 → (0 < next → member (next - 1) ≡ true) → ((i : ℕ) → next ≤ i → i < at - 1 → member i ≡ true → bound ≤ level i) → Down bound start next
      down_on next l p n =
          record {
            low = omega (arith, s.low);
            passed = p;
            none = λ i a b m. ⊎_elim
                (λ (u : at ≤ i). s.none i u b m)
                (λ (u : i < at). ⊎_elim
                (λ (w : at - 1 ≤ i). let e : i ≡ at - 1 = omega arith in rw e high)
                (λ (w : i < at - 1). n i a w m)
                (le_or_lt (at - 1) i))
                (le_or_lt at i);
          }

      pub down_step : (next : ℕ) → Latest member level (level (at - 1)) (at - 1) next → Down bound start next
      down_step next l = down_on next l.low l.passed (λ i a b m. omega (arith, l.none i a b m))

      pub down_leap : (next : ℕ) → Over member level (at - 1) next → 0 < next → bound ≤ level (next - 1) → Down bound start next
      down_leap next o p b = down_on next o.low o.passed (λ i a c m. omega (arith, o.least p i a (omega arith) m))

-- the way down goes on by the columns
pub down_next : (member : ℕ → Bool) (levels below leap : List ℕ) (bound start at n i next : ℕ) → Down member (level_at levels) bound start at → start ≤ n → Stacked member (level_at levels) n below leap
    → 0 < at → i ≡ at → bound ≤ get_or levels (i - 1) 0 → next ≡ onward levels (get_or below (i - 1) 0) (get_or leap (i - 1) 0) bound → Down member (level_at levels) bound start next
down_next member levels below leap bound start at n i next s h k p e high g =
    let l : at - 1 < n = omega (arith, s.low) in
    let m = s.passed p in
    let up : bound ≤ get_or levels (at - 1) 0 = rw e at high in
    let go : next ≡ onward levels (get_or below (at - 1) 0) (get_or leap (at - 1) 0) bound = rw e at g in
    rw go
    (onward-cases levels (get_or below (at - 1) 0) (get_or leap (at - 1) 0) bound (Down member (level_at levels) bound start)
    (down_step member (level_at levels) bound start at s p up _ (k.step (at - 1) l m))
    (λ a b. down_leap member (level_at levels) bound start at s p up _ (k.leaps (at - 1) l m) a b))

-- nothing that passes stands after the last that does
pub past-out : (m : ℕ → Bool) (t i : ℕ) → past_last m t ≤ i → i < t → m i ≡ false
unfolding past_last
past-out m zero i a b = absurd (omega arith)
past-out m (suc t) i a b =
    let r = past-out m t i in
    ⊎_elim
    (λ (y : m t ≡ true). let l : suc t ≤ i = rw y at a in absurd (omega arith))
    (λ (z : m t ≡ false).
    let l : past_last m t ≤ i = rw z at a in
    ⊎_elim (λ (e : t ≤ i). let q : i ≡ t = omega arith in ap m q ∙ z) (λ (e : i < t). r l e) (le_or_lt t i))
    (went (m t))

-- one more member: its step and its leap
module _ (member : ℕ → Bool) (level : ℕ → ℕ) where
  abbrev pub StepIs : ℕ → ℕ → Type 0
  StepIs k x = member k ≡ true → Latest member level (level k) k x

  abbrev pub LeapIs : ℕ → ℕ → Type 0
  LeapIs k x = member k ≡ true → Over member level k x

  over_none : (j : ℕ) → Over member level j 0
  over_none j = record { low = omega arith; passed = λ p. absurd (omega arith); least = λ p. absurd (omega arith) }

  over-step : (j b : ℕ) → Latest member level (level j) j b → Over member level j b
  over-step j b l =
      record {
        low = l.low;
        passed = l.passed;
        least = λ p i a h m. ⊎_elim
            (λ (e : j ≤ i). let q : i ≡ j = omega arith in rw q (omega (arith, l.under p)))
            (λ (e : i < j). omega (arith, l.under p, l.none i a e m))
            (le_or_lt j i);
      }

  over-over : (j b x : ℕ) → Over member level j b → 0 < b → Over member level (b - 1) x → Over member level j x
  over-over j b x o p q =
      record {
        low = omega (arith, o.low, q.low);
        passed = q.passed;
        least = λ h i a l m. ⊎_elim
            (λ (e : b ≤ i). omega (arith, o.least p i e l m, q.least h (b - 1) (omega (arith, q.low)) (omega arith) (o.passed p)))
            (λ (e : i < b). q.least h i a (omega arith) m)
            (le_or_lt b i);
      }

  module _ (n : ℕ) (leap : List ℕ) (leaps : (k : ℕ) → k < n → LeapIs k (get_or leap k 0)) (j : ℕ) where
    hop-over : (b : ℕ) → b ≤ n → Over member level j b → Over member level j (hop leap b)
    hop-over b h o = hop-cases leap b (Over member level j) (over_none j) (λ p. over-over j b (get_or leap (b - 1) 0) o p (leaps (b - 1) (omega arith) (o.passed p)))

    pub leap-over : Leads n leap → (b x : ℕ) → b ≤ n → Latest member level (level j) j b → (x ≡ b) ⊎ (x ≡ hop leap (hop leap b)) → Over member level j x
    leap-over low b x h l e =
        let o = over-step j b l in
        ⊎_elim
        (λ q. rw q o)
        (λ q. rw q (hop-over (hop leap b) (omega (arith, hop-low n leap b low h)) (hop-over b h o)))
        e

  -- what is the last before the member before j is the last before j
  pub latest_prior : (n past : ℕ) (prior : List ℕ) → Chain member n past prior → (bound j e b : ℕ) → j < n → member j ≡ true → e ≡ get_or prior j 0 → Latest member level bound e b → Latest member level bound j b
  latest_prior n past prior c bound j e b h m q l =
      let g : e ≡ past_last member j = q ∙ c.lower_is j h m in
      record {
        low = omega (arith, l.low, past-low member j);
        passed = l.passed;
        under = l.under;
        none = λ i a s k. ⊎_elim
            (λ (w : e ≤ i). absurd (clear k (past-out member j i (omega arith) s)))
            (λ (w : i < e). l.none i a w k)
            (le_or_lt e i);
      }

-- a member's prior leads to a member before it
pub prior_low : (member : ℕ → Bool) (n past : ℕ) (prior : List ℕ) → Chain member n past prior → (j : ℕ) → j < n → member j ≡ true → get_or prior j 0 ≤ j
prior_low member n past prior c j h m = omega (arith, c.lower_is j h m, past-low member j)

pub prior_in : (member : ℕ → Bool) (n past : ℕ) (prior : List ℕ) → Chain member n past prior → (j e : ℕ) → j < n → member j ≡ true → e ≡ get_or prior j 0 → 0 < e → member (e - 1) ≡ true
prior_in member n past prior c j e h m q p =
    let g : e ≡ past_last member j = q ∙ c.lower_is j h m in
    ap (λ x. member (x - 1)) g ∙ past-in member j (omega arith)

-- below j every place has its step and its leap
pub record Growing (levels prior : List ℕ) (n j : ℕ) (below leap : List ℕ) : Type 0 where
  pub steps : Filled (λ k x. x ≤ k) j below
  pub leaps : Filled (λ k x. x ≤ k) j leap
  pub stacked : (member : ℕ → Bool) (past : ℕ) → Chain member n past prior → Filled (StepIs member (level_at levels)) j below × Filled (LeapIs member (level_at levels)) j leap

module _ (levels prior : List ℕ) (n : ℕ) where
  pub growing_none : (below leap : List ℕ) → Growing levels prior n 0 below leap
  growing_none below leap = record { steps = filled_none _ below; leaps = filled_none _ leap; stacked = λ member past c. (filled_none _ below, filled_none _ leap) }

  module _ (j : ℕ) (below leap : List ℕ) (s : Growing levels prior n j below leap) where
    pub growing_leads : j ≤ length below → j ≤ length leap → Leads j below × Leads j leap
    growing_leads a b = (record { room = a; low = s.steps.entry }, record { room = b; low = s.leaps.entry })

    growing_stacked : (member : ℕ → Bool) (past : ℕ) → Chain member n past prior → Stacked member (level_at levels) j below leap
    growing_stacked member past c = record { step = (s.stacked member past c).0.entry; leaps = (s.stacked member past c).1.entry }

    pub growing_built : n ≤ j → n ≤ length below → n ≤ length leap → Built levels prior n below leap
    growing_built h a b =
        record {
          steps = record { room = a; low = λ k l. s.steps.entry k (omega arith) };
          leaps = record { room = b; low = λ k l. s.leaps.entry k (omega arith) };
          stacked = λ member past c.
              let w = growing_stacked member past c in
              record { step = λ k l. w.step k (omega arith); leaps = λ k l. w.leaps k (omega arith) };
        }

    module _ (h : j < n) (a : j < length below) (l : j < length leap) (e b y : ℕ) (low : e ≤ j) (first : get_or prior j 0 ≤ j → e ≡ get_or prior j 0) (under : b ≤ e)
        (found : (member : ℕ → Bool) (t : ℕ) → e ≤ t → Stacked member (level_at levels) t below leap → (0 < e → member (e - 1) ≡ true) → Latest member (level_at levels) (get_or levels j 0) e b)
        (far : (y ≡ b) ⊎ (y ≡ hop leap (hop leap b))) where
      leads : Leads j leap
      leads = (growing_leads (omega arith) (omega arith)).1

      far_low : y ≤ j
      far_low = ⊎_elim (λ q. omega arith) (λ q. omega (arith, hop-low j leap b leads (omega arith), hop-low j leap (hop leap b) leads (omega (arith, hop-low j leap b leads (omega arith))))) far

      pub growing_store : Growing levels prior n (j + 1) (set below j b) (set leap j y)
      growing_store =
          record {
            steps = filled-store _ s.steps a b (omega arith);
            leaps = filled-store _ s.leaps l y far_low;
            stacked = λ member past c.
                let w = s.stacked member past c in
                let own : member j ≡ true → Latest member (level_at levels) (get_or levels j 0) j b
                = λ m.
                let q = first (prior_low member n past prior c j h m) in
                latest_prior member (level_at levels) n past prior c (get_or levels j 0) j e b h m q
                (found member j low (growing_stacked member past c) (prior_in member n past prior c j e h m q)) in
                (filled-store _ w.0 a b own, filled-store _ w.1 l y (λ m. leap-over member (level_at levels) j leap w.1.entry j leads b y (omega arith) (own m) far));
          }
