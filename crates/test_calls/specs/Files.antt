-- What a request does to files of one row of bytes.
use Rattle.std.specs.Prelude.{◌≡◌, ◌++◌}
use Rattle.host.specs.Requests.{Request}
use Rattle.host.specs.Requests.Request.{Read, NotRead, Written, NotWritten}
use Rattle.test_calls.specs.declared.files.OneFile.{OneFile}

-- a read gives the bytes, and a write adds to what is written
abbrev pub Answers : OneFile → Request → OneFile → Type 0
Answers old (Read name bytes) new = (bytes ≡ old.bytes.now) × (new ≡ old)
Answers old (NotRead name fault) new = new ≡ old
Answers old (Written name bytes) new = (new.written.items ≡ old.written.items ++ bytes) × (new.bytes.now ≡ old.bytes.now)
Answers old (NotWritten name bytes fault) new = new.bytes.now ≡ old.bytes.now
