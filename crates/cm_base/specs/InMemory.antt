-- What a store and a sink in memory hold, and what a call makes of them.
use Rattle.std.specs.Prelude.{ℕ, ◌+◌, min, ◌==◌, ◌≡◌, ◌<◌, Bool, List, [], ◌++◌, take, length, slice_index_or, None, if◌then◌else◌}
use Rattle.std.specs.List.{list_any}
use Rattle.cm_base.specs.Outside.{Files, file_at, with_file, last_count}

-- a store's files, the numbers of the calls that are to fail, the number of the newest call, and the counts of faults
pub record StoreState : Type 0 where
  pub files : Files
  pub fail : List ℕ
  pub calls : ℕ
  pub read_faults : ℕ
  pub write_faults : ℕ

-- a sink's output, the numbers of the calls that are to fail, the number of the newest call, and the count of faults
pub record SinkState : Type 0 where
  pub given : List ℕ
  pub fail : List ℕ
  pub calls : ℕ
  pub faults : ℕ

-- the next number of a counter, which stays at its last value
abbrev pub next_count : ℕ → ℕ
next_count n = min (n + 1) last_count

-- the call after these many calls is to fail
abbrev pub is_to_fail : List ℕ → ℕ → Bool
is_to_fail fail calls = list_any (λ number. number == next_count calls) fail

-- the count of faults after a call
abbrev pub faults_after : List ℕ → ℕ → ℕ → ℕ
faults_after fail calls faults = if is_to_fail fail calls then next_count faults else faults

-- a store of these files at which no call was made
abbrev pub new_store : Files → List ℕ → StoreState
new_store files fail = record { files = files; fail = fail; calls = 0; read_faults = 0; write_faults = 0 }

-- the store after a read
abbrev pub after_read : StoreState → StoreState
after_read s = record s {
  calls = next_count s.calls;
  read_faults = faults_after s.fail s.calls s.read_faults;
}

-- the store after a write that failed
abbrev pub after_failed_write : StoreState → StoreState
after_failed_write s = record s {
  calls = next_count s.calls;
  write_faults = faults_after s.fail s.calls s.write_faults;
}

-- the store after a write that was done
abbrev pub after_write : StoreState → List ℕ → List ℕ → StoreState
after_write s name bytes = record s { files = with_file s.files name bytes; calls = next_count s.calls }

-- a sink without output at which no call was made
abbrev pub new_sink : List ℕ → SinkState
new_sink fail = record { given = []; fail = fail; calls = 0; faults = 0 }

-- the first file of this name stands at this place
pub record IsPlaceOf (files : Files) (name : List ℕ) (place : ℕ) : Type 0 where
  pub within : place < length files
  pub before : file_at (take place files) name ≡ None
  pub here : (d : List ℕ × List ℕ) → (slice_index_or files place d).0 ≡ name

-- the sink after a put that failed
abbrev pub after_failed_put : SinkState → SinkState
after_failed_put s = record s {
  calls = next_count s.calls;
  faults = faults_after s.fail s.calls s.faults;
}

-- the sink after a put that was done
abbrev pub after_put : SinkState → List ℕ → SinkState
after_put s bytes = record s { given = s.given ++ bytes; calls = next_count s.calls }

-- the counts of the reads and of the writes that failed
pub record FaultCounts : Type 0 where
  pub reads : ℕ
  pub writes : ℕ

abbrev pub no_faults : FaultCounts
no_faults = record { reads = 0; writes = 0 }
