use Rattle.log_recovery.proofs.following.reader_from.Goals as goal

pub returns-in-Err-Fault-clause-error : goal.returns-in-Err-Fault-clause-error
returns-in-Err-Fault-clause-error g c = rw c.in-Err-Fault.field-0-is at c.in-Err-Fault.ensures.error

pub returns-in-Err-NoMemory-clause-error : goal.returns-in-Err-NoMemory-clause-error
returns-in-Err-NoMemory-clause-error g c = rw c.in-Err-NoMemory.field-0-is at c.in-Err-NoMemory.ensures.error
