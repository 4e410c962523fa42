-- Stacks of levels. Some places, the members, stand one after the other, and each has a level; sought is the last one before a place whose
-- level is below a bound. From each member lead a step down, to the last one before it that is lower, and a leap, over none that is lower
-- than where it comes down. Places are counted from one where 0 stands for none.
use Rattle.std.specs.Prelude.{◌≡◌, Bool, true, cond, List, ℕ, ◌-◌, ◌≤◌, ◌<◌, eqb, ltb, length, get_or}
use Rattle.steps.specs.Greatest.{Chain}

-- x is one past the last of the members below n whose level is below the bound, 0 where there is none
pub record Latest (member : ℕ → Bool) (level : ℕ → ℕ) (bound n x : ℕ) : Type 0 where
  pub low : x ≤ n
  pub passed : 0 < x → member (x - 1) ≡ true
  pub under : 0 < x → level (x - 1) < bound
  pub none : (i : ℕ) → x ≤ i → i < n → member i ≡ true → bound ≤ level i

-- a leap from member j to the one before x, or to none: no member from there to j is lower
pub record Over (member : ℕ → Bool) (level : ℕ → ℕ) (j x : ℕ) : Type 0 where
  pub low : x ≤ j
  pub passed : 0 < x → member (x - 1) ≡ true
  pub least : 0 < x → (i : ℕ) → x ≤ i → i ≤ j → member i ≡ true → level (x - 1) ≤ level i

-- a column that leads from each of n places to one before it, or to none
pub record Leads (n : ℕ) (column : List ℕ) : Type 0 where
  pub room : n ≤ length column
  pub low : (j : ℕ) → j < n → get_or column j 0 ≤ j

-- the steps and leaps of the members below n
pub record Stacked (member : ℕ → Bool) (level : ℕ → ℕ) (n : ℕ) (below leap : List ℕ) : Type 0 where
  pub step : (j : ℕ) → j < n → member j ≡ true → Latest member level (level j) j (get_or below j 0)
  pub leaps : (j : ℕ) → j < n → member j ≡ true → Over member level j (get_or leap j 0)

-- where the level of each place stands in a column
abbrev pub level_at : List ℕ → ℕ → ℕ
level_at levels j = get_or levels j 0

-- what stands in a column at a place counted from one; 0 at 0
unfoldable pub hop : List ℕ → ℕ → ℕ
hop column place = cond (eqb place 0) 0 (get_or column (place - 1) 0)

-- the leap where it comes down on one that is not below the bound, else the step
unfoldable pub onward : List ℕ → ℕ → ℕ → ℕ → ℕ
onward levels below leap bound = cond (eqb leap 0) below (cond (ltb (get_or levels (leap - 1) 0) bound) below leap)

-- the steps and leaps of n places, whoever the members of the chains `prior` are
pub record Built (levels prior : List ℕ) (n : ℕ) (below leap : List ℕ) : Type 0 where
  pub steps : Leads n below
  pub leaps : Leads n leap
  pub stacked : (member : ℕ → Bool) (past : ℕ) → Chain member n past prior → Stacked member (level_at levels) n below leap
