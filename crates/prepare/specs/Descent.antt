-- How the names from the root down fit a path, told by what is left of it: how many names are still to come, counted from one; 0 where they do not fit.
use Rattle.std.specs.Prelude.{◌≡◌, ◌&&◌, List, ℕ, suc, ◌+◌, ◌≤◌, ◌<◌, eqb, length, get_or}
use Rattle.meaning.specs.declared.Rule.{Rule}
use Rattle.meaning.specs.Document.{Doc, is_version}
use Rattle.meaning.specs.Select.{name_fits, path_to}
use Rattle.columns.specs.Lent.{Tree}
use Rattle.columns.specs.Judgeable.{Judgeable}
use Rattle.columns.specs.declared.Records.{Records}

-- x is left of a path of `steps` names after one more name, of `before`: j names and this one are passed exactly where j were, and the next one fits it
pub record Passes (path : List ℕ) (steps before name x : ℕ) : Type 0 where
  pub most : x ≤ steps
  pub on : (j : ℕ) → j < steps → eqb (x + suc j) (suc steps) ≡ (name_fits (get_or path j 0) name && eqb (before + j) (suc steps))

-- x is left below record v: m names are passed exactly where v is a version, and the first m fit the names from the root to its item
pub record Left (doc : Doc) (r : Rule) (v x : ℕ) : Type 0 where
  pub most : x ≤ r.steps
  pub passed : (m : ℕ) → m ≤ r.steps → eqb (x + m) (suc r.steps) ≡ (is_version doc v && path_to doc r m v)

-- record v of columns that some document that can be judged has, and what is left below each record before it
pub record Descends (kinds names parents left : List ℕ) (steps v : ℕ) : Type 0 where
  pub doc : Doc
  pub tree : Tree doc kinds names parents
  pub judgeable : Judgeable doc
  pub here : v < length kinds
  pub room : v < length left
  pub short : steps ≤ 8
  pub few : (w : ℕ) → w < v → get_or left w 0 ≤ steps

-- the same of columns that are lent together
abbrev pub DescendsIn : Records → List ℕ → ℕ → ℕ → Type 0
DescendsIn r left steps v = Descends r.kind.now r.name.now r.parent.now left steps v
