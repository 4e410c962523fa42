-- What a rule is judged from: the columns of a document, and what was found of it once for all rules.
use Rattle.std.specs.Prelude.{List, ℕ, ◌-◌, ◌≤◌, ℤ, length, take}
use Rattle.meaning.specs.Block.{limit}
use Rattle.meaning.specs.Document.{Doc, is_version}
use Rattle.columns.specs.declared.Records.{Records}
use Rattle.columns.specs.Lent.{Tree, Values, Periods, Whole, Fronts}
use Rattle.columns.specs.Judgeable.{Judgeable}
use Rattle.values.specs.Represents.{Represents}
use Rattle.groups.specs.Groups.{Groups}
use Rattle.orders.specs.Order.{InOrder}
use Rattle.survey.specs.Surveyed.{Surveyed}
use Rattle.soonest.specs.declared.Surveyed.{Surveyed as Survey}

-- the columns of a document that can be judged, a class for each item number, and the versions by their ends
pub record Known (doc : Doc) (kinds vkinds names parents begins ends : List ℕ) (values : List ℤ) (groups closes : List ℕ) : Type 0 where
  pub tree : Tree doc kinds names parents
  pub values_held : Values doc kinds vkinds values
  pub periods : Periods doc begins ends
  pub judgeable : Judgeable doc
  pub classes : Groups doc groups
  pub closed : InOrder (is_version doc) ends closes (length closes)
  pub few : length closes ≤ limit

-- the same of columns lent together, and of what is known of them
abbrev pub KnownOf : Doc → Records → Survey → Type 0
KnownOf doc s u = Known doc s.kind.now s.vkind.now s.name.now s.parent.now s.begin.now s.end.now s.value.now u.group.now u.closes.now

-- with the representatives of values and the versions by their begins too
pub record SurveyedOf (doc : Doc) (s : Records) (u : Survey) : Type 0 where
  pub known : KnownOf doc s u
  pub represents : Represents doc u.rep.now
  pub opened : InOrder (is_version doc) s.begin.now u.opens.now (length u.opens.now)

-- the first n entries of columns lent together are a document that can be judged
abbrev pub FrontsOf : ℕ → Records → Type 0
FrontsOf n s = Fronts n s.kind.now s.vkind.now s.name.now s.parent.now s.begin.now s.end.now s.value.now s.item.now

-- they are this one
abbrev pub WholeFront : Doc → ℕ → Records → Type 0
WholeFront doc n s =
    Whole doc (take (n - 0) s.kind.now) (take (n - 0) s.vkind.now) (take (n - 0) s.name.now) (take (n - 0) s.parent.now) (take (n - 0) s.begin.now) (take (n - 0) s.end.now)
    (take (n - 0) s.value.now) (take (n - 0) s.item.now)

-- and this is their survey, with so many versions
abbrev pub SurveyedFront : Doc → ℕ → Records → Survey → ℕ → Type 0
SurveyedFront doc n s u many = Surveyed doc (take (n - 0) s.begin.now) (take (n - 0) s.end.now) u.rep.now u.group.now u.opens.now u.closes.now many
