-- Devices in memory, whose calls fail by number.
use Rattle.std.specs.Prelude.{ℕ, ◌-◌, ◌^◌, ◌==◌, ◌&&◌, Bool, cond, nat_lt, List}
use Rattle.std.specs.List.{list_any}
use Rattle.rz_io.specs.Device.{count_after}

-- the numbers of the calls that fail, how many calls there were, and how many of these failed
pub record FaultSchedule : Type 0 where
  pub fails : List ℕ
  pub calls : ℕ
  pub faults : ℕ

-- a device that has had no call
abbrev pub no_call_yet : List ℕ → FaultSchedule
no_call_yet fails = record { fails = fails; calls = 0; faults = 0 }

-- whether the next call fails: its number is listed, and isn't the last value of 64 bits
abbrev pub next_fails : FaultSchedule → Bool
next_fails schedule =
    nat_lt schedule.calls (2 ^ 64 - 1) && list_any (λ n. n == schedule.calls) schedule.fails

-- one call more, which is a fault where it fails
abbrev pub after_call : FaultSchedule → FaultSchedule
after_call schedule = record schedule {
  calls = count_after schedule.calls;
  faults = cond (next_fails schedule) (count_after schedule.faults) schedule.faults;
}

-- a store of files
pub record Store : Type 0 where
  pub files : List (List ℕ × List ℕ)
  pub schedule : FaultSchedule

-- a sink that takes at most so many bytes at once, and the bytes that it took
pub record Outlet : Type 0 where
  pub chunk : ℕ
  pub bytes : List ℕ
  pub schedule : FaultSchedule
