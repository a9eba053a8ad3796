-- A fragment in a block: a header that is written in front of a part.
use Rattle.std.proofs.Common.{◌≡◌, ℕ, ◌+◌, List, ◌++◌, length, take, drop, sym, ◌∙◌, ap}
use Rattle.std.proofs.Math.Seq.{take-add, take-append_seam, drop-append_seam}

-- the part, after the h bytes of the header
pub part_there : (front part behind : List ℕ) (h len : ℕ) → length front ≡ h → length part ≡ len → take len (drop h (front ++ (part ++ behind))) ≡ part
part_there front part behind h len front_len part_len =
    ap (λ (n : ℕ). take len (drop n (front ++ (part ++ behind)))) (sym front_len) ∙ (ap (take len) (drop-append_seam front (part ++ behind))
    ∙ (ap (λ (n : ℕ). take n (part ++ behind)) (sym part_len) ∙ take-append_seam part behind))

-- and the header in front of it
pub filled : (front part behind header new : List ℕ) (n h len : ℕ) → length front ≡ h → length part ≡ len → n ≡ h → take n new ≡ header → drop n new ≡ drop n (front ++ (part ++ behind)) → take (h + len) new ≡ header ++ part
filled front part behind header new n h len front_len part_len n_is there same =
    let first : take h new ≡ header = ap (λ (k : ℕ). take k new) (sym n_is) ∙ there in
    let rest : drop h new ≡ drop h (front ++ (part ++ behind)) = ap (λ (k : ℕ). drop k new) (sym n_is) ∙ (same ∙ ap (λ (k : ℕ). drop k (front ++ (part ++ behind))) n_is) in
    take-add h len new ∙ (ap (λ (l : List ℕ). l ++ take len (drop h new)) first ∙ ap (λ (l : List ℕ). header ++ l) (ap (take len) rest ∙ part_there front part behind h len front_len part_len))
