-- What holds of the bytes of a file, if it tells them.
use Rattle.std.proofs.Common.{ℕ, List, Option, None, Some, IfSome}

pub if_all : (told : Option (List ℕ)) (P : List ℕ → Type 0) → ((d : List ℕ) → P d) → IfSome told P
if_all None P f = tt
if_all (Some d) P f = f d

pub if_one : (told : Option (List ℕ)) (P Q : List ℕ → Type 0) → IfSome told P → ((d : List ℕ) → P d → Q d) → IfSome told Q
if_one None P Q p f = tt
if_one (Some d) P Q p f = f d p

pub if_both : (told : Option (List ℕ)) (P Q R : List ℕ → Type 0) → IfSome told P → IfSome told Q → ((d : List ℕ) → P d → Q d → R d) → IfSome told R
if_both None P Q R p q f = tt
if_both (Some d) P Q R p q f = f d p q
