-- A client that commits one batch, and what can be seen of it; and two clients whose batches go as one group.
use Rattle.std.specs.Prelude.{ℕ, ◌+◌, false, List, [], ◌∷◌, codes, Some, None}
use Rattle.model_base.specs.declared.limits.TheConstants.{MAX_SIZE}
use Rattle.model_base.specs.declared.history.Flag.TheVariants.{Log}
use Rattle.model_base.specs.declared.write.WriteOptions.{WriteOptions}
use Rattle.model_base.specs.Batch.{Record, value, size_of_batch}
use Rattle.model_base.specs.Map.{key_in}
use Rattle.model_base.specs.History.{Entry}
use Rattle.model_base.specs.Controller.{ControllerCall, delay}
use Rattle.model_base.specs.Trace.{Trace, Settings}
use Rattle.model_base.specs.Attempts.{Attempt, succeeded, slowed, item_of}
use Rattle.model_base.specs.Groups.{Group}
use Rattle.model_base.specs.LogContents.{GroupCall}
use Rattle.model_base.specs.Calls.{Command, add, commit, Call, quiet, accepted}
use Rattle.table_rule.specs.declared.content.MemberVersions.{MemberVersions}
use Rattle.table_rule.specs.declared.content.Version.{Version}
use Rattle.model_accounts.specs.Sights.{LoggedBatch, Sight}
use Rattle.model_accounts.specs.Accounts.{Account, newcomer}

abbrev pub settings : Settings
settings = record {
  start = 0;
  opening = [];
  kept = None;
  clients = 1;
  families = 1;
  group_bytes = 1048576;
  batch_bytes = MAX_SIZE;
  opened = 0;
}

-- `put a 1` and `put b 2`, in one batch
abbrev pub two_records : List Record
two_records = value None (codes "a") (codes "1") ∷ value None (codes "b") (codes "2") ∷ []

abbrev pub plain : WriteOptions
plain = record { sync = false; no_log = false; no_slowdown = false }

abbrev pub one_entry : Entry
one_entry = record { client = 1; ordinal = 1; first = 1; count = 2; flag = Log; records = two_records }

-- the call of the controller for the commit's group: no token is held, so it needn't wait
abbrev pub one_delay : ControllerCall
one_delay = record {
  client = 1;
  action = delay 0 (size_of_batch two_records);
  told = Some (record { stops = 0; delays = 0; wait = 0 });
}

-- the call of the log writer that wrote it
abbrev pub one_write : GroupCall
one_write = record { first = 1; batches = two_records ∷ []; sync = false; failed = None }

abbrev pub one_batch : Trace
one_batch = record {
  start = 0;
  opening = [];
  entries = one_entry ∷ [];
  kept = None;
  logged = (one_entry ∷ []) ∷ [];
  controller_calls = one_delay ∷ [];
  log_calls = one_write ∷ [];
}

-- the commit, and its group
abbrev pub one_attempt : Attempt
one_attempt = record { records = two_records; options = plain; status = succeeded; place = 0; decided = 1 }

abbrev pub one_group : Group
one_group = record { place = 0; members = record { client = 1; call = 0; item = item_of one_attempt } ∷ [] }

-- the versions that this batch makes
abbrev pub first_version : Version
first_version = record { key = key_in None (codes "a"); value = Some (codes "1"); sequence = 1 }

abbrev pub second_version : Version
second_version = record { key = key_in None (codes "b"); value = Some (codes "2"); sequence = 2 }

-- what the client knows of its batch in the log: before its commit it knew of no call
abbrev pub one_logged : LoggedBatch
one_logged = record { knew = 0; knows = 1; first = 1; records = two_records; sync = false }

-- what is seen where these versions were published as one group, once the controller was asked and the batch was logged
abbrev pub sight_of : List Version → Sight
sight_of versions = record {
  start = 0;
  opening = [];
  published = (record { member = 1; versions = versions } ∷ []) ∷ [];
  controller_calls = one_delay ∷ [];
  log_reads = [];
  logged = 1;
  batches = one_logged ∷ [];
}

-- the client's account before its commit, and after it
abbrev pub before : Account
before = newcomer 0 [] 1

abbrev pub after : Account
after = record before {
  mine = one_entry ∷ [];
  ends = 2 ∷ [];
  attempts = one_attempt ∷ [];
  seen = sight_of (first_version ∷ second_version ∷ []);
}

-- its script and its transcript
abbrev pub commands : List Command
commands = add (value None (codes "a") (codes "1")) ∷ add (value None (codes "b") (codes "2")) ∷ commit plain ∷ []

abbrev pub calls : List Call
calls =
    record { command = add (value None (codes "a") (codes "1")); reply = quiet }
    ∷ record { command = add (value None (codes "b") (codes "2")); reply = quiet }
    ∷ record { command = commit plain; reply = accepted 1 2 two_records } ∷ []

-- Two clients: `put a 1` and `put b 2`, as one group

abbrev pub pair_settings : Settings
pair_settings = record settings { clients = 2 }

abbrev pub first_records : List Record
first_records = value None (codes "a") (codes "1") ∷ []

abbrev pub second_records : List Record
second_records = value None (codes "b") (codes "2") ∷ []

-- a client's only entry, with one record
abbrev pub entry_with : ℕ → ℕ → List Record → Entry
entry_with client first records =
    record { client = client; ordinal = 1; first = first; count = 1; flag = Log; records = records }

abbrev pub attempt_with : List Record → Attempt
attempt_with records =
    record { records = records; options = plain; status = succeeded; place = 0; decided = 1 }

abbrev pub pair_delay : ControllerCall
pair_delay = record {
  client = 1;
  action = delay 0 (size_of_batch first_records + size_of_batch second_records);
  told = Some (record { stops = 0; delays = 0; wait = 0 });
}

abbrev pub pair_write : GroupCall
pair_write = record { first = 1; batches = first_records ∷ second_records ∷ []; sync = false; failed = None }

abbrev pub pair_trace : Trace
pair_trace = record {
  start = 0;
  opening = [];
  entries = entry_with 1 1 first_records ∷ entry_with 2 2 second_records ∷ [];
  kept = None;
  logged = (entry_with 1 1 first_records ∷ entry_with 2 2 second_records ∷ []) ∷ [];
  controller_calls = pair_delay ∷ [];
  log_calls = pair_write ∷ [];
}

abbrev pub pair_group : Group
pair_group = record {
  place = 0;
  members =
      record { client = 1; call = 0; item = item_of (attempt_with first_records) }
      ∷ record { client = 2; call = 0; item = item_of (attempt_with second_records) } ∷ [];
}

abbrev pub pair_published : List MemberVersions
pair_published =
    record { member = 1; versions = first_version ∷ [] } ∷ record { member = 2; versions = second_version ∷ [] } ∷ []

-- what a client has seen whose batch, of these records, has this sequence
abbrev pub pair_sight : List Record → ℕ → Sight
pair_sight records first = record {
  start = 0;
  opening = [];
  published = pair_published ∷ [];
  controller_calls = pair_delay ∷ [];
  log_reads = [];
  logged = 1;
  batches = record { knew = 0; knows = 1; first = first; records = records; sync = false } ∷ [];
}

-- the account of a client that wrote these records as this entry, and learned that its group ends at `group_last`
abbrev pub account_with : List Record → Entry → ℕ → Account
account_with records entry group_last = record {
  number = entry.client;
  mine = entry ∷ [];
  ends = group_last ∷ [];
  asked = [];
  attempts = attempt_with records ∷ [];
  read_faults = [];
  seen = pair_sight records entry.first;
}

-- both accounts, where the first client learned that its group ends at `group_last`
abbrev pub pair_accounts : ℕ → List Account
pair_accounts group_last =
    account_with first_records (entry_with 1 1 first_records) group_last
    ∷ account_with second_records (entry_with 2 2 second_records) 2 ∷ []

-- A client whose second commit of three was refused, and groups of one commit each

abbrev pub three_attempts : List Attempt
three_attempts =
    one_attempt ∷ record one_attempt { status = slowed; place = 1; decided = 2 }
    ∷ record one_attempt { place = 2; decided = 3 } ∷ []

abbrev pub group_of_call : ℕ → Group
group_of_call call =
    record { place = call; members = record { client = 1; call = call; item = item_of one_attempt } ∷ [] }
