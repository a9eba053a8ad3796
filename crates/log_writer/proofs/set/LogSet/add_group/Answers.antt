use Rattle.std.proofs.Common.{◌≡◌, ℕ, Option, Some, IfSome, refl, sym, subst}
use Rattle.log_writer.specs.Adding.{call_of}
use Rattle.log_writer.specs.Sets.{stuck}
use Rattle.log_writer.proofs.Setting.{adds_over}
use Rattle.log_writer.proofs.set.LogSet.add_group.Goals as goal

pub returns-in-Ok : goal.returns-in-Ok
returns-in-Ok g c =
    let old = c.args.self.now in
    let new = c.add_here.new.self in
    let call = call_of c.args.first c.args.members.now c.args.sync c.add_here.result in
    record {
      dead = subst (λ (f : Option ℕ). IfSome f (λ count. (call.failed ≡ Some count) × (new ≡ old))) (sym c.in_default.is) tt;
      put = λ alive. adds_over call old c.make_room.new.self new c.in-Ok.ensures.made c.add_here.ensures;
    }

pub returns-in-Err : goal.returns-in-Err
returns-in-Err g c =
    let old = c.args.self.now in
    let new = c.make_room.new.self in
    let count = c.in-Err.fault.count in
    record {
      dead = subst (λ (f : Option ℕ). IfSome f (λ n. (◌≡◌ {A = Option ℕ} (Some count) (Some n)) × (new ≡ old))) (sym c.in_default.is) tt;
      put = λ alive. stuck count refl c.in-Err.ensures.made;
    }
