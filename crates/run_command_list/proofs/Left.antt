-- What is left after the first key and after the first command.
use Rattle.std.proofs.Common.{◌≡◌, ℕ, ◌-◌, List, [], ◌∷◌, length, refl, sym, ap, ◌∙◌, arith}
use Rattle.std.specs.Prelude.{Some, None}
use Rattle.std.specs.List.{AllByRecursion}
use Rattle.model_base.specs.declared.key.Key.{Key}
use Rattle.model_base.specs.Calls.{Command}
use Rattle.run_command_list.specs.Layout.{bytes_of_keys, body}
use Rattle.run_command_list.specs.Contents.{AreSmall, Fits, AreKeys, AreCommands}
use Rattle.run_command_list.specs.Reading.{Read, read_byte, read_fixed32, read_key, read_command}
use Rattle.run_command_list.specs.ReadBack.{key_back, command_back}
use Rattle.run_command_list.specs.OneList.{one_read}

-- what is there isn't nothing
there : {A : Type 0} (p : A × List ℕ) → ◌≡◌ {A = Read A} None (Some p) → ⊥
there p e = cc

no_key_of : (bytes : List ℕ) (keys : List Key) → AreSmall keys → bytes ≡ bytes_of_keys keys → ◌≡◌ {A = Read Key} None (read_key bytes) → keys ≡ []
no_key_of bytes [] small is none = refl
no_key_of bytes (k ∷ keys) small is none =
    absurd (there {A = Key} (k, bytes_of_keys keys) (none ∙ ap read_key is ∙ key_back k (bytes_of_keys keys) small.0))

pub no_key : (bytes : List ℕ) (count : ℕ) (h : AreKeys bytes count) → ◌≡◌ {A = Read Key} None (read_key bytes) → h.keys ≡ []
no_key bytes count h none = no_key_of bytes h.keys h.small h.spelled none

behind_key_of : (bytes : List ℕ) (count : ℕ) (keys : List Key) (k : Key) (rest : List ℕ) → AreSmall keys → count ≡ length keys → bytes ≡ bytes_of_keys keys
    → ◌≡◌ {A = Read Key} (Some (k, rest)) (read_key bytes) → (later : AreKeys rest (count - 1)) × (keys ≡ k ∷ later.keys)
unfolding read_key read_fixed32
behind_key_of bytes count [] k rest small counted is first = absurd (there {A = Key} (k, rest) (sym (first ∙ ap read_key is)))
behind_key_of bytes count (v ∷ keys) k rest small counted is first =
    let same = one_read {A = Key} (k, rest) (v, bytes_of_keys keys) (first ∙ ap read_key is ∙ key_back v (bytes_of_keys keys) small.0) in
    (record { keys = keys; small = small.1; counted = omega (arith, counted); spelled = same.1 }, ap (λ (x : Key). x ∷ keys) (sym same.0))

pub behind_key : (bytes : List ℕ) (count : ℕ) (h : AreKeys bytes count) (k : Key) (rest : List ℕ) → ◌≡◌ {A = Read Key} (Some (k, rest)) (read_key bytes)
    → (later : AreKeys rest (count - 1)) × (h.keys ≡ k ∷ later.keys)
behind_key bytes count h k rest first = behind_key_of bytes count h.keys k rest h.small h.counted h.spelled first

no_command_of : (bytes : List ℕ) (commands : List Command) → AllByRecursion Fits commands → bytes ≡ body commands → ◌≡◌ {A = Read Command} None (read_command bytes) → commands ≡ []
no_command_of bytes [] fit is none = refl
no_command_of bytes (c ∷ commands) fit is none =
    absurd (there {A = Command} (c, body commands) (none ∙ ap read_command is ∙ command_back c (body commands) fit.0))

pub no_command : (bytes : List ℕ) (h : AreCommands bytes) → ◌≡◌ {A = Read Command} None (read_command bytes) → h.commands ≡ []
no_command bytes h none = no_command_of bytes h.commands h.fit h.spelled none

behind_command_of : (bytes : List ℕ) (commands : List Command) (c : Command) (rest : List ℕ) → AllByRecursion Fits commands → bytes ≡ body commands
    → ◌≡◌ {A = Read Command} (Some (c, rest)) (read_command bytes) → (later : AreCommands rest) × (commands ≡ c ∷ later.commands)
unfolding read_command read_byte
behind_command_of bytes [] c rest fit is first = absurd (there {A = Command} (c, rest) (sym (first ∙ ap read_command is)))
behind_command_of bytes (d ∷ commands) c rest fit is first =
    let same = one_read {A = Command} (c, rest) (d, body commands) (first ∙ ap read_command is ∙ command_back d (body commands) fit.0) in
    (record { commands = commands; fit = fit.1; spelled = same.1 }, ap (λ (x : Command). x ∷ commands) (sym same.0))

pub behind_command : (bytes : List ℕ) (h : AreCommands bytes) (c : Command) (rest : List ℕ) → ◌≡◌ {A = Read Command} (Some (c, rest)) (read_command bytes)
    → (later : AreCommands rest) × (h.commands ≡ c ∷ later.commands)
behind_command bytes h c rest first = behind_command_of bytes h.commands c rest h.fit h.spelled first
