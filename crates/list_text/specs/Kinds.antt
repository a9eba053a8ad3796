-- What the tags of operations are called.
use Rattle.std.specs.Prelude.{ℕ, List, [], ◌∷◌, codes, slice_index_or}
use Rattle.list_text.specs.declared.kinds.Kind.{Kind}
use Rattle.list_text.specs.declared.kinds.Kind.TheVariants as kind

-- the kinds of the tags from 0 on; a tag that names a family has the kind of the one that doesn't
abbrev kinds : List Kind
kinds =
    kind.Delete  -- 00
    ∷ kind.Put  -- 01
    ∷ kind.Merge  -- 02
    ∷ kind.LogData  -- 03
    ∷ kind.Delete  -- 04
    ∷ kind.Put  -- 05
    ∷ kind.Merge  -- 06
    ∷ kind.SingleDelete  -- 07
    ∷ kind.SingleDelete  -- 08
    ∷ kind.BeginPrepare  -- 09
    ∷ kind.EndPrepare  -- 0a
    ∷ kind.Commit  -- 0b
    ∷ kind.Rollback  -- 0c
    ∷ kind.Noop  -- 0d
    ∷ kind.DeleteRange  -- 0e
    ∷ kind.DeleteRange  -- 0f
    ∷ kind.BlobIndex  -- 10
    ∷ kind.BlobIndex  -- 11
    ∷ kind.BeginPersistedPrepare  -- 12
    ∷ kind.BeginUnprepare  -- 13
    ∷ kind.Unknown  -- 14
    ∷ kind.CommitTimestamp  -- 15
    ∷ kind.PutEntity  -- 16
    ∷ kind.PutEntity  -- 17
    ∷ kind.TimedPut  -- 18
    ∷ kind.TimedPut  -- 19
    ∷ []

abbrev pub kind_of : ℕ → Kind
kind_of tag = slice_index_or kinds tag kind.Unknown

abbrev pub word_of : Kind → List ℕ
word_of kind.Delete = codes "delete"
word_of kind.Put = codes "put"
word_of kind.Merge = codes "merge"
word_of kind.LogData = codes "logdata"
word_of kind.SingleDelete = codes "singledelete"
word_of kind.BeginPrepare = codes "beginprepare"
word_of kind.EndPrepare = codes "endprepare"
word_of kind.Commit = codes "commit"
word_of kind.Rollback = codes "rollback"
word_of kind.Noop = codes "noop"
word_of kind.DeleteRange = codes "deleterange"
word_of kind.BlobIndex = codes "blobindex"
word_of kind.BeginPersistedPrepare = codes "beginpersistedprepare"
word_of kind.BeginUnprepare = codes "beginunprepare"
word_of kind.CommitTimestamp = codes "committimestamp"
word_of kind.PutEntity = codes "putentity"
word_of kind.TimedPut = codes "timedput"
word_of kind.Unknown = codes "unknown"

-- the word of a tag
abbrev pub kind_word : ℕ → List ℕ
kind_word tag = word_of (kind_of tag)
