use Rattle.std.proofs.Common.{◌≡◌, arith, rules}
use Rattle.model_base.specs.Map.{key_at}
use Rattle.run_command_list.specs.Contents.{AreKeys}
use Rattle.run_command_list.proofs.Steps.{walked_none, walked_more, walked_cut, walked_all, walked_front, walked_fewer, walked_as_many}
use Rattle.run_command_list.proofs.Additions.{keys_are}
use Rattle.run_command_list.proofs.keys.Keys.split.Goals as goal

pub loop-found-init : goal.loop-found-init
loop-found-init c = record { walked = walked_none c.args.bytes.now; few = omega arith }

pub returns-in_err-behind : goal.returns-in_err-behind
returns-in_err-behind c =
    rw c.from_residual.ensures (walked_cut c.args.bytes.now c.loop-found.rest.now c.loop-found.found c.args.count c.loop-found.invariant.walked (omega arith) (search rules))

pub loop-found-preserved : goal.loop-found-preserved
loop-found-preserved c = record {
  walked = walked_more c.args.bytes.now c.loop-found.rest.now c.loop-found.found (key_at c.in_ok-behind.field-0-0 c.in_ok-behind.field-0-1.now) c.in_ok-behind.behind.now c.loop-found.invariant.walked (c.in_ok-behind.ensures.small, c.in_ok-behind.ensures.short) c.in_ok-behind.ensures.spelled;
  few = omega arith;
}

pub overflow_sub-bytes : goal.overflow_sub-bytes
overflow_sub-bytes c = walked_fewer c.args.bytes.now c.loop-found.rest.now c.loop-found.found c.loop-found.invariant.walked

pub invariant_of-result : goal.invariant_of-result
invariant_of-result c =
    let w = walked_as_many c.args.bytes.now c.loop-found.rest.now c.loop-found.found c.args.count c.loop-found.invariant.walked c.loop-found.invariant.few c.loop-found-test.false in (
      record {
        keys = w.keys;
        small = w.small;
        counted = w.counted;
        spelled = walked_front c.args.bytes.now c.loop-found.rest.now c.split_at.result.0.now c.args.count w c.split_at.ensures.front;
      },
      tt,
    )

pub returns : goal.returns
returns c =
    let w = walked_as_many c.args.bytes.now c.loop-found.rest.now c.loop-found.found c.args.count c.loop-found.invariant.walked c.loop-found.invariant.few c.loop-found-test.false in
    let are : (h : AreKeys c.split_at.result.0.now c.args.count) → h.keys ≡ w.keys =
    λ h. keys_are c.split_at.result.0.now c.args.count h w.keys w.small w.counted
    (walked_front c.args.bytes.now c.loop-found.rest.now c.split_at.result.0.now c.args.count w c.split_at.ensures.front) in
    rw are (walked_all c.args.bytes.now c.loop-found.rest.now c.args.count w)
