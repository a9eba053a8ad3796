use Rattle.std.proofs.Common.{◌≡◌, ℕ, true, false, List, Option, Some, None, Ok, Err, refl, sym, ap, ◌∙◌}
use Rattle.std.specs.Prelude.{if◌then◌else◌, find, bytes_eq, option_map}
use Rattle.std.specs.Option.{is_some, unwrap_or}
use Rattle.model_base.specs.declared.script.ScriptFault.TheVariants.{Byte, Form}
use Rattle.model_base.specs.Script.{are_plain, words_of}
use Rattle.model_core.specs.declared.event.Event.{Event}
use Rattle.model_core.specs.Schedule as model
use Rattle.run_scripts.specs.ReplayLanguage.{event_words}
use Rattle.run_scripts.proofs.schedule.read_event.Goals as goal

-- a word that names an event, and a number that is a client's, are that event
event_read : (found : Option model.EventWord) (client : Option ℕ) (n : ℕ) (event : Event) → is_some client ≡ true → ((k : ℕ) → client ≡ Some k → n ≡ k) → option_map (λ (x : model.EventWord). x.1 n) found ≡ Some event → model.event_with found client ≡ Ok event
event_read None client n event some is e = absurd (cc)
event_read (Some x) None n event some is e = absurd (cc)
event_read (Some x) (Some k) n event some is e =
    let same : n ≡ k = is k refl in
    let one : x.1 n ≡ event = cc in
    ap (λ (y : Event). Ok y) (ap x.1 (sym same) ∙ one)

-- a word that names an event, and no number of a client
no_client : (found : Option model.EventWord) (client : Option ℕ) (n : ℕ) (event : Event) → is_some client ≡ false → option_map (λ (x : model.EventWord). x.1 n) found ≡ Some event → model.event_with found client ≡ Err Form
no_client None client n event none e = absurd (cc e)
no_client (Some x) None n event none e = refl
no_client (Some x) (Some k) n event none e = absurd (cc none)

-- the line is plain, so its words and its number decide
pub returns-then-is_none : goal.returns-then-is_none
returns-then-is_none c =
    let clients : ℕ = c.args.clients in
    let line : List ℕ = c.args.line.now in
    let first : List ℕ = c.split_once.result.0.now in
    let found : Option model.EventWord = find (λ (x : model.EventWord). bytes_eq first x.0) event_words in
    let plain : are_plain line ≡ true = sym c.are_plain.ensures ∙ c.if-not-are_plain.false in
    ap (λ b. if b then model.event_of_words clients event_words (words_of line) else Err Byte) plain
    ∙ (ap (model.event_of_words clients event_words) c.split_once.ensures.parts
    ∙ (ap (model.event_with found) (sym c.client_alone-client.ensures)
    ∙ no_client found c.client_alone-client.result c.unwrap_or.result c.in-Some.event c.if-is_none.ensures (sym c.event_named.ensures ∙ c.in-Some.is)))

pub returns : goal.returns
returns c =
    let clients : ℕ = c.args.clients in
    let line : List ℕ = c.args.line.now in
    let first : List ℕ = c.split_once.result.0.now in
    let found : Option model.EventWord = find (λ (x : model.EventWord). bytes_eq first x.0) event_words in
    let plain : are_plain line ≡ true = sym c.are_plain.ensures ∙ c.if-not-are_plain.false in
    ap (λ b. if b then model.event_of_words clients event_words (words_of line) else Err Byte) plain
    ∙ (ap (model.event_of_words clients event_words) c.split_once.ensures.parts
    ∙ (ap (model.event_with found) (sym c.client_alone-client.ensures)
    ∙ event_read found c.client_alone-client.result c.unwrap_or.result c.in-Some.event c.if-is_none.ensures (λ k e. c.unwrap_or.ensures ∙ ap (λ (o : Option ℕ). unwrap_or o 0) e) (sym c.event_named.ensures ∙ c.in-Some.is)))
