-- No script was read, or no schedule: what is printed then, also where the source failed.
use Rattle.std.proofs.Common.{◌≡◌, ◌≢◌, ◌⊎◌, inl, inr, ⊎_elim, ℕ, List, Option, Some, None, Ok, Err, IfSome, ap, ◌∙◌, subst, arith}
use Rattle.model_base.specs.Counts.{Rose}
use Rattle.model_base.specs.Script.{Script, Fault, script_of, whole_grammar}
use Rattle.model_base.specs.declared.script.ScriptFault.{ScriptFault}
use Rattle.run_outcome.specs.Running.{IsReached}
use Rattle.program_text.specs.Refusals.{source_fault, script_fault}
use Rattle.program_call.specs.declared.reading.ReadError.{ReadError}
use Rattle.program_call.specs.declared.reading.ReadError.TheVariants as read
use Rattle.program_call.specs.declared.report.Status.{Status}
use Rattle.model_core.specs.Schedule.{Schedule, schedule_of}
use Rattle.run_scripts.specs.ReplayLanguage.{replay_grammar, event_words}
use Rattle.program_call.specs.Reading.{IsScriptError, IsScheduleError, CountStays}
use Rattle.program_call.specs.Texts.{SaysTo, NoFault}
use Rattle.program_call.specs.Reports.{code, TellsReadError}
use Rattle.program_call.proofs.Refusing.{refused_as}

-- where the text is a script, nothing needs to hold of one that isn't
pub is_script : (left : Option (List ℕ)) (script : Script) (Untouched : Type 0) → IfSome left (λ text. script_of whole_grammar text ≡ Ok script)
    → IfSome left (λ text. (f : Fault) → script_of whole_grammar text ≡ Err f → Untouched)
is_script None script Untouched said = tt
is_script (Some text) script Untouched said = λ f other. absurd (cc (said, other))

-- where nothing was touched, nothing was touched because of a text that is no script
pub left_untouched : (left : Option (List ℕ)) (Untouched : Type 0) → Untouched → IfSome left (λ text. (f : Fault) → script_of whole_grammar text ≡ Err f → Untouched)
left_untouched None Untouched is = tt
left_untouched (Some text) Untouched is = λ f other. is

-- at 4 the source failed, and a refusal that says so was printed, if `Why` gives that the fault's count was reached in
-- the call
pub source_failed : (Why : ReadError → Type 0) (failed fails : ℕ) → ((count : ℕ) → Why (read.Fault count) → IsReached failed count fails)
    → (sold snew : Option (List ℕ)) (kf kfs n : ℕ) (given : Status) → n ≡ code given → (why : ReadError) → Why why → TellsReadError sold snew kf kfs why given
    → n ≡ 4 → Rose failed fails × ((count : ℕ) × IsReached failed count fails × SaysTo sold snew (source_fault count) kf kfs)
source_failed Why failed fails reached sold snew kf kfs n given is (read.Fault count) error tells four =
    let at = reached count error in (subst (Rose failed) at.1 at.0, (count, at, tells.1))
source_failed Why failed fails reached sold snew kf kfs n given is (read.Script line kind) error tells four =
    ⊎_elim (λ said. absurd (let a = said.0 in omega (arith, a, four))) (λ none. absurd (let a = none.0 in omega (arith, a, four))) (refused_as sold snew kf kfs _ _ given n is tells)
source_failed Why failed fails reached sold snew kf kfs n given is read.NoMemory error tells four = absurd (let a : n ≡ 6 = is ∙ ap code tells.0 in omega (arith, a, four))

-- at 2 the text's fault was printed
pub fault_said : (Why : ReadError → Type 0) (Is : Fault → Type 0) → ((line : ℕ) (kind : ScriptFault) → Why (read.Script line kind) → Is (record { line = line; kind = kind }))
    → (sold snew : Option (List ℕ)) (kf kfs n : ℕ) (given : Status) → n ≡ code given → (why : ReadError) → Why why → TellsReadError sold snew kf kfs why given
    → n ≡ 2 → (f : Fault) × Is f × SaysTo sold snew (script_fault f) kf kfs
fault_said Why Is first sold snew kf kfs n given is (read.Fault count) error tells two = absurd (let a : n ≡ 4 = is ∙ ap code tells.0 in omega (arith, a, two))
fault_said Why Is first sold snew kf kfs n given is (read.Script line kind) error tells two =
    ⊎_elim (λ said. (record { line = line; kind = kind }, first line kind error, said.1)) (λ none. absurd (let a = none.0 in omega (arith, a, two))) (refused_as sold snew kf kfs _ _ given n is tells)
fault_said Why Is first sold snew kf kfs n given is read.NoMemory error tells two = absurd (let a : n ≡ 6 = is ∙ ap code tells.0 in omega (arith, a, two))

-- at each other status than 4 the source has counted no fault
pub unread_stood : (failed fails kf kfs n : ℕ) (sold snew : Option (List ℕ)) (given : Status) → n ≡ code given → (why : ReadError) → CountStays failed fails why → TellsReadError sold snew kf kfs why given
    → n ≢ 4 → fails ≡ failed
unread_stood failed fails kf kfs n sold snew given is (read.Fault count) stood tells other = absurd (other (is ∙ ap code tells.0))
unread_stood failed fails kf kfs n sold snew given is (read.Script line kind) stood tells other = stood
unread_stood failed fails kf kfs n sold snew given is read.NoMemory stood tells other = stood

-- at 0 and at 6 the sink has counted no fault
pub unread_counted : (kf kfs n : ℕ) (sold snew : Option (List ℕ)) (given : Status) → n ≡ code given → (why : ReadError) → TellsReadError sold snew kf kfs why given → (n ≡ 0) ⊎ (n ≡ 6) → kfs ≡ kf
unread_counted kf kfs n sold snew given is (read.Fault count) tells at = absurd (let a : n ≡ 4 = is ∙ ap code tells.0 in ⊎_elim (λ e. omega (arith, a, e)) (λ e. omega (arith, a, e)) at)
unread_counted kf kfs n sold snew given is (read.Script line kind) tells at =
    ⊎_elim (λ said. absurd (let a = said.0 in ⊎_elim (λ e. omega (arith, a, e)) (λ e. omega (arith, a, e)) at)) (λ lacks. lacks.2) (refused_as sold snew kf kfs _ _ given n is tells)
unread_counted kf kfs n sold snew given is read.NoMemory tells at = tells.2

-- where the source didn't fail and the text is a script, it was left unread only because there was no memory
pub unread_completes : (left : Option (List ℕ)) (failed fails kf kfs n : ℕ) (sold snew : Option (List ℕ)) (given : Status) → n ≡ code given → (why : ReadError)
    → IsScriptError left failed fails why → TellsReadError sold snew kf kfs why given → NoFault failed fails
    → IfSome left (λ text. (script : Script) → script_of whole_grammar text ≡ Ok script → (n ≡ 0) ⊎ (n ≡ 6))
unread_completes None failed fails kf kfs n sold snew given is why error tells stood = tt
unread_completes (Some text) failed fails kf kfs n sold snew given is (read.Fault count) error tells stood = λ script said. absurd (stood (subst (Rose failed) error.1 error.0))
unread_completes (Some text) failed fails kf kfs n sold snew given is (read.Script line kind) error tells stood = λ script said. absurd (cc (error, said))
unread_completes (Some text) failed fails kf kfs n sold snew given is read.NoMemory error tells stood = λ script said. inr (is ∙ ap code tells.0)

-- where the source didn't fail and there was memory, a text that is no script was refused as one
pub unread_other : (left : Option (List ℕ)) (failed fails kf kfs n : ℕ) (sold snew : Option (List ℕ)) (given : Status) → n ≡ code given → (why : ReadError)
    → IsScriptError left failed fails why → TellsReadError sold snew kf kfs why given → n ≢ 6 → NoFault failed fails
    → IfSome left (λ text. (f : Fault) → script_of whole_grammar text ≡ Err f → n ≡ 2)
unread_other None failed fails kf kfs n sold snew given is why error tells memory stood = tt
unread_other (Some text) failed fails kf kfs n sold snew given is (read.Fault count) error tells memory stood = λ f other. absurd (stood (subst (Rose failed) error.1 error.0))
unread_other (Some text) failed fails kf kfs n sold snew given is (read.Script line kind) error tells memory stood =
    λ f other. ⊎_elim (λ said. said.0) (λ lacks. absurd (memory lacks.0)) (refused_as sold snew kf kfs _ _ given n is tells)
unread_other (Some text) failed fails kf kfs n sold snew given is read.NoMemory error tells memory stood = λ f other. absurd (memory (is ∙ ap code tells.0))

-- the same where the text is a script with a schedule
pub unread_schedule_completes : (left : Option (List ℕ)) (failed fails kf kfs n : ℕ) (sold snew : Option (List ℕ)) (given : Status) → n ≡ code given → (why : ReadError)
    → IsScheduleError left failed fails why → TellsReadError sold snew kf kfs why given → NoFault failed fails
    → IfSome left (λ text. (schedule : Schedule) → schedule_of replay_grammar event_words text ≡ Ok schedule → (n ≡ 0) ⊎ (n ≡ 6))
unread_schedule_completes None failed fails kf kfs n sold snew given is why error tells stood = tt
unread_schedule_completes (Some text) failed fails kf kfs n sold snew given is (read.Fault count) error tells stood = λ schedule said. absurd (stood (subst (Rose failed) error.1 error.0))
unread_schedule_completes (Some text) failed fails kf kfs n sold snew given is (read.Script line kind) error tells stood = λ schedule said. absurd (cc (error, said))
unread_schedule_completes (Some text) failed fails kf kfs n sold snew given is read.NoMemory error tells stood = λ schedule said. inr (is ∙ ap code tells.0)

-- the status where nothing was read is none of those at which something was run
pub unread_status : (kf kfs n : ℕ) (sold snew : Option (List ℕ)) (given : Status) → n ≡ code given → (why : ReadError) → TellsReadError sold snew kf kfs why given → (n ≡ 2) ⊎ (n ≡ 4) ⊎ (n ≡ 6)
unread_status kf kfs n sold snew given is (read.Fault count) tells = inr (inl (is ∙ ap code tells.0))
unread_status kf kfs n sold snew given is (read.Script line kind) tells = ⊎_elim (λ said. inl said.0) (λ lacks. inr (inr lacks.0)) (refused_as sold snew kf kfs _ _ given n is tells)
unread_status kf kfs n sold snew given is read.NoMemory tells = inr (inr (is ∙ ap code tells.0))

no_run : (n : ℕ) → (n ≡ 2) ⊎ (n ≡ 4) ⊎ (n ≡ 6) → (n ≡ 0) ⊎ (n ≡ 5) → ⊥
no_run n (inl a) (inl b) = omega (arith, a, b)
no_run n (inl a) (inr b) = omega (arith, a, b)
no_run n (inr (inl a)) (inl b) = omega (arith, a, b)
no_run n (inr (inl a)) (inr b) = omega (arith, a, b)
no_run n (inr (inr a)) (inl b) = omega (arith, a, b)
no_run n (inr (inr a)) (inr b) = omega (arith, a, b)

pub unread_is_not_run : (kf kfs n : ℕ) (sold snew : Option (List ℕ)) (given : Status) → n ≡ code given → (why : ReadError) → TellsReadError sold snew kf kfs why given → (n ≡ 0) ⊎ (n ≡ 5) → ⊥
unread_is_not_run kf kfs n sold snew given is why tells at = no_run n (unread_status kf kfs n sold snew given is why tells) at
