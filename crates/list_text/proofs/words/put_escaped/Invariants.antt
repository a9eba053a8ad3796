use Rattle.std.proofs.Common.{◌≡◌, ◌++◌, take, flat_map}
use Rattle.list_text.specs.Words.{escaped_byte}
use Rattle.list_text.proofs.words.put_escaped.Given as goal

-- the bytes so far are appended to the text
abbrev pub invariant-loop-byte : goal.invariant-loop-byte
invariant-loop-byte l = l.text ≡ l.initial.text ++ flat_map (escaped_byte l.escape) (take l.byte-index l.bytes)
