-- What the readers of blocks ask of a form and an image, and what they say of a place, of a count of records and of the bytes of one.
use Rattle.std.specs.Prelude.{◌≡◌, ℕ, ◌+◌, ◌*◌, ◌<◌, ◌≤◌, List, length}
use Rattle.meaning.specs.declared.Form.{Form}
use Rattle.meaning.specs.Reading.{Accepted}
use Rattle.meaning.specs.Order.{in_order}
use Rattle.meaning.specs.Block.{blocks, counted, record_at, image_tests, records, record_of}

-- a full block has room for its records, and the form's numbers are small; true of both kinds of image
pub record Fair (form : Form) : Type 0 where
  pub some : 1 ≤ form.each
  pub room : 8 + form.size * form.each ≤ 508
  pub each_small : form.each ≤ 25
  pub most_small : form.most ≤ 65536
  pub base_small : form.base ≤ 20

-- the 512 bytes of block b
pub record OneBlock (form : Form) (b : ℕ) (part : List ℕ) : Type 0 where
  pub fair : Fair form
  pub whole : length part ≡ 512
  pub near : b < 65536

-- a block that says it has no more records than there is room for
pub record Roomy (form : Form) (part : List ℕ) : Type 0 where
  pub fair : Fair form
  pub whole : length part ≡ 512
  pub few : counted part ≤ form.each

-- where record k of a block starts, or where the last one ends
pub record Start (form : Form) (k at : ℕ) : Type 0 where
  pub place : at ≡ record_at form k
  pub room : at ≤ 508

-- an image whose blocks were read
pub record Read (form : Form) (image : List ℕ) : Type 0 where
  pub fair : Fair form
  pub accepted : in_order (image_tests form image) ≡ Accepted

-- how many records an image has, and that each lies in one of its blocks
pub record Counted (form : Form) (image : List ℕ) (n : ℕ) : Type 0 where
  pub count : n ≡ records form image
  pub some : 1 ≤ n
  pub inside : n ≤ form.each * blocks image
  pub few : n ≤ form.each * form.most

-- a block starts at a place of the image, and has room for its record k
pub record Within (form : Form) (image : List ℕ) (at k : ℕ) : Type 0 where
  pub fair : Fair form
  pub here : at + 512 ≤ length image
  pub few : k < form.each

-- a record that lies in a block
pub record Inside (form : Form) (image : List ℕ) (i : ℕ) : Type 0 where
  pub fair : Fair form
  pub inside : i < form.each * blocks image

-- the bytes of record i
pub record Part (form : Form) (image : List ℕ) (i : ℕ) (part : List ℕ) : Type 0 where
  pub bytes : part ≡ record_of form image i
  pub size : length part ≡ form.size
