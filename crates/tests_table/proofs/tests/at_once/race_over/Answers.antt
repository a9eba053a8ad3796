-- All seats that a table is opened with have nothing to do, and the turn hasn't launched anything.
use Rattle.std.proofs.Common.{◌≡◌, ℕ, [], ◌∷◌, Option, ap, sym, subst}
use Rattle.std.proofs.lemmas.List.Elements.{All-from_recursion}
use Rattle.std.specs.Prelude.{IfSome}
use Rattle.table_rule.specs.declared.view.Opening.{Opening}
use Rattle.table_memory.specs.declared.memory_table.MemoryTable.{MemoryTable}
use Rattle.table_memory.specs.Meaning.{Seat, Turn, opening_of, IsTurnAtStart}
use Rattle.tests_table.specs.Clients.{IsIdle, IsForFour, MayPlay}
use Rattle.tests_table.specs.declared.tests.at_once.Player.{Player}
use Rattle.tests_table.proofs.tests.at_once.race_over.Goals as goal

may_play : (table : MemoryTable) (x : Player) (seat : Seat) (turn : Option Turn) → (x.seat ≡ seat) × (x.turn ≡ turn)
    → IsIdle table seat → IfSome turn (λ (u : Turn). IsTurnAtStart table u) → MayPlay table x.seat x.turn
may_play table x seat turn is idle start =
    (subst (IsIdle table) (sym is.0) idle, subst (λ (t : Option Turn). IfSome t (λ (u : Turn). IsTurnAtStart table u)) (sym is.1) start)

for_four : (table : MemoryTable) (shards : ℕ) → opening_of table ≡ record { clients = 4; shards = shards; start = 7; base = [] } → IsForFour table
for_four table shards is = (ap (λ (o : Opening). o.clients) is, ap (λ (o : Opening). o.start) is)

pub taken-requires : goal.taken-requires
taken-requires g c = λ seat i. let start = c.in_ok-table.ensures.clients.1 seat i in (start.0, start.1)

pub play_at_once-requires-clause-opening : goal.play_at_once-requires-clause-opening
play_at_once-requires-clause-opening g c = λ κs outlives. for_four c.in_ok-table.table c.args.shards c.in_ok-table.ensures.table

pub play_at_once-requires-clause-players : goal.play_at_once-requires-clause-players
play_at_once-requires-clause-players g c = λ κs outlives.
    let table = c.in_ok-table.table in
    let first = may_play table c.seated.result _ _ c.seated.ensures c.in_ok-first.ensures.seat c.in_ok-table.ensures.turn in
    let second = may_play table c.seated-2.result _ _ c.seated-2.ensures c.in_ok-second.ensures.seat tt in
    let third = may_play table c.seated-3.result _ _ c.seated-3.ensures c.in_ok-third.ensures.seat tt in
    let reader = may_play table c.seated-4.result _ _ c.seated-4.ensures c.in_ok-reader.ensures.seat tt in
    All-from_recursion (λ (x : Player). MayPlay table x.seat x.turn) (c.seated.result ∷ c.seated-2.result ∷ c.seated-3.result ∷ c.seated-4.result ∷ []) (first, (second, (third, (reader, tt))))
