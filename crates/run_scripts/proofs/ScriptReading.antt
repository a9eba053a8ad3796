-- Line after line of a script.
use Rattle.std.proofs.Common.{◌≡◌, ℕ, ◌-◌, ◌+◌, ◌<◌, true, false, cond, List, ◌∷◌, [], ◌++◌, length, get_or, set, fold, Result, Ok, Err, refl, ap, sym, ◌∙◌, arith}
use Rattle.std.specs.List.{enumerate_from}
use Rattle.model_base.specs.Calls.{Command}
use Rattle.model_base.specs.Script.{Script, Fault, Grammar, add_to_last, with_command, with_line, line_of, ◌>>=◌, after_line, at_line, without_empty_end, is_passed_over}
use Rattle.run_scripts.specs.declared.lines.LineError.{LineError}
use Rattle.run_scripts.specs.declared.lines.LineError.TheVariants as error
use Rattle.run_scripts.specs.Scripts.{IsFaultOf}
use Rattle.run_scripts.specs.ScriptLines.{line_added, Reads, error_at}

-- one more command, after those of the last client
add_to_last-set : (y : List Command) (ys : List (List Command)) (x d : List Command) (c : Command) → x ≡ get_or (y ∷ ys) (length ys) d ++ c ∷ [] → add_to_last (y ∷ ys) c ≡ set (y ∷ ys) (length ys) x
add_to_last-set y [] x d c is = ap (λ (cs : List Command). cs ∷ []) (sym is)
add_to_last-set y (z ∷ zs) x d c is = ap (λ (rest : List (List Command)). y ∷ rest) (add_to_last-set z zs x d c is)

-- one more command of the last client, where the list's length is known
pub with_command-set : (xs : List (List Command)) (n : ℕ) (x d : List Command) (c : Command) → n ≡ length xs → 0 < n → x ≡ get_or xs (n - 1) d ++ c ∷ [] → with_command xs c ≡ Ok (set xs (n - 1) x)
with_command-set [] n x d c len some is = absurd (omega arith)
with_command-set (y ∷ ys) n x d c len some is =
    let last : n - 1 ≡ length ys = omega arith in
    rw last (ap Ok (add_to_last-set y ys x d c (rw last at is)))

-- a line after others
pub after_line-is : (g : Grammar) (script : Script) (n : ℕ) (l : List ℕ) → after_line g (Ok script) (n, l) ≡ at_line n (line_added g script l)
after_line-is g script n l =
    elim (is_passed_over l) as (λ v. cond v (Ok script) (at_line n (line_of g.forms l >>= with_line g.client_limit script)) ≡ at_line n (cond v (Ok script) (line_of g.forms l >>= with_line g.client_limit script))) [ true ↦ refl | false ↦ refl ]

-- after a fault nothing is read
pub fold_after_line-err : (g : Grammar) (fault : Fault) (ls : List (ℕ × List ℕ)) → fold (after_line g) (Err fault) ls ≡ Err fault
fold_after_line-err g fault [] = refl
fold_after_line-err g fault (l ∷ ls) = fold_after_line-err g fault ls

-- an empty line changes nothing
after_line-empty : (g : Grammar) (r : Result Script Fault) (n : ℕ) → r ≡ after_line g r (n, [])
after_line-empty g (Ok script) n = refl
after_line-empty g (Err fault) n = refl

-- what comes after the last line feed is passed over if it is empty
pub fold_after_line-without_empty_end : (g : Grammar) (r : Result Script Fault) (n : ℕ) (ls : List (List ℕ)) → fold (after_line g) r (enumerate_from n (without_empty_end ls)) ≡ fold (after_line g) r (enumerate_from n ls)
fold_after_line-without_empty_end g r n [] = refl
fold_after_line-without_empty_end g r n ([] ∷ []) = after_line-empty g r n
fold_after_line-without_empty_end g r n ((b ∷ bs) ∷ []) = refl
fold_after_line-without_empty_end g r n (l ∷ m ∷ ls) = fold_after_line-without_empty_end g (after_line g r (n, l)) (n + 1) (m ∷ ls)

-- the first fault of a script is that of the first line with one
pub first_fault : (g : Grammar) (script : Script) (n : ℕ) (l : List ℕ) (ls : List (List ℕ)) (given : Result Script Fault) (e : LineError) → Reads {A = Script} {B = Script} (λ s. s) (line_added g script l) (Err e) → fold (after_line g) (Ok script) (enumerate_from n (l ∷ ls)) ≡ given → IsFaultOf given (error_at n e)
first_fault g script n l ls given (error.Fault kind) reads is =
    let faulty : after_line g (Ok script) (n, l) ≡ Err (record { line = n; kind = kind }) = after_line-is g script n l ∙ ap (at_line n) reads in
    sym is ∙ (ap (λ r. fold (after_line g) r (enumerate_from (n + 1) ls)) faulty ∙ fold_after_line-err g (record { line = n; kind = kind }) (enumerate_from (n + 1) ls))
first_fault g script n l ls given error.NoMemory reads is = tt
