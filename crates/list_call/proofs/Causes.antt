-- Which faults were counted.
use Rattle.std.proofs.Common.{◌≡◌, ℕ, List, Option, sym, ◌∙◌, subst}
use Rattle.base_devices.specs.Faults.{Rose}
use Rattle.log_recovery.specs.declared.recovery.Recovered.{Recovered}
use Rattle.list_text.specs.declared.form.Form.{Form}
use Rattle.list_log.specs.Showing.{HasShownCauses}
use Rattle.list_log.specs.declared.showing.Shown.{Shown}
use Rattle.list_log.specs.declared.showing.Shown.TheVariants as shown
use Rattle.list_call.specs.Calls.{HasCauses, WritesRecovered, status_of}
use Rattle.list_call.specs.declared.status.Status.{Status}
use Rattle.list_call.specs.declared.status.Status.TheVariants as status

-- by how showing the records ended, after calls that worked
shown_causes : (opened mid now failed fails : ℕ) (how : Shown) → mid ≡ opened → HasShownCauses mid now failed fails how → HasCauses opened now failed fails (status_of how)
shown_causes opened mid now failed fails (shown.All at why) worked causes = (causes.0 ∙ worked, causes.1)
shown_causes opened mid now failed fails (shown.Fault count) worked causes = (subst (λ (n : ℕ). Rose n now) worked (subst (Rose mid) causes.1 causes.0), causes.2)
shown_causes opened mid now failed fails shown.SinkFailed worked causes = (causes.0 ∙ worked, causes.1)
shown_causes opened mid now failed fails shown.NoMemory worked causes = (causes.0 ∙ worked, causes.1)

pub list_causes : (opened mid now failed fails : ℕ) (how : Shown) (given : Status) → mid ≡ opened → HasShownCauses mid now failed fails how → given ≡ status_of how → HasCauses opened now failed fails given
list_causes opened mid now failed fails how given worked causes is = subst (HasCauses opened now failed fails) (sym is) (shown_causes opened mid now failed fails how worked causes)

-- by the status of what was written of a recovery that worked
pub state_causes : (form : Form) (v : Recovered) (before after : Option (List ℕ)) (opened now failed fails : ℕ) (given : Status) → now ≡ opened → WritesRecovered form v before after failed fails given
    → HasCauses opened now failed fails given
state_causes form v before after opened now failed fails status.Done worked writes = (worked, writes.3)
state_causes form v before after opened now failed fails status.Sink worked writes = (worked, writes.3)
state_causes form v before after opened now failed fails status.Memory worked writes = (worked, writes.1)
state_causes form v before after opened now failed fails other worked writes = absurd writes
