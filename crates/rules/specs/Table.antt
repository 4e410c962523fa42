-- What the readers of a rule table ask of its image, and what they say of a count, of one place of a path, of the columns kept of its rules, and of the rule that one refers to.
use Rattle.std.specs.Prelude.{◌≡◌, Bool, ◌&&◌, ◌||◌, not, cond, List, ℕ, ◌*◌, ◌≤◌, ◌<◌, eqb, leb, ltb, length, get_or}
use Rattle.meaning.specs.declared.Rule.{Rule}
use Rattle.meaning.specs.Reading.{Accepted}
use Rattle.meaning.specs.Order.{in_order}
use Rattle.meaning.specs.Block.{rule_form, image_tests}
use Rattle.meaning.specs.Rules.{is_reference, rule_at, rules_of}
use Rattle.meaning.specs.Answer.{referred_by}

-- place k of a path of so many steps: a name, or none past them
abbrev pub place_fits : List ℕ → ℕ → ℕ → Bool
place_fits path steps k = cond (ltb k steps) (leb 1 (get_or path k 0)) (eqb (get_or path k 0) 0)

-- an image whose blocks were read, and how many rules it has: as many as its blocks can hold, at most
pub record Table (image : List ℕ) (n : ℕ) : Type 0 where
  pub blocks : in_order (image_tests rule_form image) ≡ Accepted
  pub count : n ≡ length (rules_of image)
  pub few : n ≤ rule_form.each * rule_form.most

-- an image whose blocks were read, and one of its rules
pub record Row (image : List ℕ) (k : ℕ) : Type 0 where
  pub blocks : in_order (image_tests rule_form image) ≡ Accepted
  pub below : k < length (rules_of image)

-- a column begins with the first n values of a function
abbrev pub Begins : (ℕ → ℕ) → ℕ → List ℕ → Type 0
Begins f n column = (k : ℕ) → k < n → get_or column k 0 ≡ f k

-- of the first n rules, their kinds and the numbers that they refer to
pub record Kept (rs : List Rule) (n : ℕ) (kind referred : List ℕ) : Type 0 where
  pub kinds : Begins (λ k. (rule_at rs k).kind) n kind
  pub targets : Begins (λ k. (rule_at rs k).referred) n referred

-- 26 by these columns, over n rules
unfoldable pub refers_in : List ℕ → List ℕ → ℕ → ℕ → Bool
refers_in kind referred n k =
    not (eqb (get_or kind k 0) 3)
    || (ltb (get_or referred k 0) n && (eqb (get_or kind (get_or referred k 0) 0) 1 || eqb (get_or kind (get_or referred k 0) 0) 2))

-- the rule to which rule k refers if it is a reference, else rule k itself
abbrev pub referred_or : List Rule → ℕ → Rule
referred_or rs k = cond (is_reference (rule_at rs k)) (referred_by rs k) (rule_at rs k)
