-- What contracts see of a page with the pages below it, and what each page keeps.
use Rattle.std.specs.Prelude.{◌≡◌, ℕ, ◌+◌, ◌*◌, ◌^◌, ◌≤◌, max, List, [], ◌∷◌, ◌++◌, length, Vec, vec_capacity}
use Rattle.std.specs.declared.alloc.Global.{Global}
use Rattle.std.specs.List.{AllByRecursion}
use Rattle.table_nodes.specs.Chains.{Chain}
use Rattle.table_tree.specs.Places.{IsOfFamilies}
use Rattle.table_tree.specs.declared.entry.Families.{Families}

pub record Branch : Type 0 where
  -- the chains of its entries and of the pages below, in the order of their keys
  pub chains : List Chain
  -- how many of them are its own entries
  pub own : ℕ
  -- how many pages lie below one another in it, without itself
  pub height : ℕ

-- The chains of pages and of the entries between them: first those of the first page, then the first entry's, and so
-- on. A page of entries without pages below is a leaf.
abbrev pub woven : List Branch → List Chain → List Chain
woven [] entries = entries
woven (b ∷ below) [] = b.chains
woven (b ∷ below) (e ∷ entries) = b.chains ++ e ∷ woven below entries

-- one more than the highest of these pages
abbrev pub height_of : List Branch → ℕ
height_of [] = 0
height_of (b ∷ below) = max (b.height + 1) (height_of below)

-- Each page below is at least half full, so that there are many chains for its height.
abbrev pub IsDense : Branch → Type 0
IsDense b = 16 ^ b.height * (b.own + 1) ≤ length b.chains + 1

-- a page below another: it is as high as the pages beside it, and at least half full
pub record IsSide (h : ℕ) (b : Branch) : Type 0 where
  pub height : b.height ≡ h
  pub own : 15 ≤ b.own
  pub dense : IsDense b

-- Below n entries there is nothing, or one page more than there are entries.
abbrev pub AreBelow : ℕ → List Branch → Type 0
AreBelow n [] = Unit {0}
AreBelow n (b ∷ below) = (length below ≡ n) × AllByRecursion (IsSide b.height) (b ∷ below)

-- a page that isn't a leaf has room for all pages that it may have below it
abbrev pub HasRoom : List Branch → ℕ → Type 0
HasRoom [] room = Unit {0}
HasRoom (b ∷ below) room = 32 ≤ room

pub record IsPage (families : Families) (entries : Vec Chain Global) (below : Vec Branch Global) : Type 0 where
  pub few : length entries.items ≤ 31
  pub room : 31 ≤ vec_capacity entries
  pub families_are : AllByRecursion (IsOfFamilies families.lowest families.greatest) entries.items
  pub levels : AreBelow (length entries.items) below.items
  pub room_below : HasRoom below.items (vec_capacity below)
