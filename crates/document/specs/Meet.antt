-- What test 9 works out on the way: the versions of an item that share a day with a version.
use Rattle.std.specs.Prelude.{ℕ, Bool, ◌&&◌}
use Rattle.meaning.specs.Walk.{any}
use Rattle.meaning.specs.Document.{Doc, version_of}
use Rattle.meaning.specs.Nodes.{share_day}

-- some version of item i shares a day with version u
abbrev pub meets_item : Doc → ℕ → ℕ → Bool
meets_item doc i u = any (λ v. version_of doc i v && share_day doc u v) 0 doc.size
