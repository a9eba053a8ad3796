use Rattle.base_devices.proofs.failed.count_fault.Goals as goal

pub returns-clause-counted : goal.returns-clause-counted
returns-clause-counted c = c.saturating_add.ensures
