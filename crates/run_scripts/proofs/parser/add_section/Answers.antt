use Rattle.std.proofs.Common.{◌≡◌, ℕ, ◌+◌, length, Err, refl, sym, arith}
use Rattle.model_base.specs.declared.limits.TheConstants.{MAX_CLIENTS}
use Rattle.model_base.specs.declared.script.ScriptFault.TheVariants.{Clients}
use Rattle.model_base.specs.Script.{Script, with_section}
use Rattle.run_scripts.specs.Scripts.{commands_of}
use Rattle.run_scripts.proofs.parser.add_section.Goals as goal

-- the section of one client too many
one_too_many : (script : Script) (n : ℕ) → n ≡ length script + 1 → n ≡ MAX_CLIENTS + 1 → with_section MAX_CLIENTS script n ≡ Err Clients
one_too_many script n next past = rw (sym next, past) refl

pub returns-then-number-from-clause-script : goal.returns-then-number-from-clause-script
returns-then-number-from-clause-script c =
    let clients = c.args.script.now.clients in
    one_too_many (commands_of c.args.script.now) c.args.number (omega (arith, c.if-number-len.false, c.len.ensures, clients.ok.0)) (omega (arith, c.if-number-from.true, c.from.ensures))
