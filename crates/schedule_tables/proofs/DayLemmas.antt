-- Entries by day, and the finite map that they make.
use Rattle.std.proofs.Common.{◌≡◌, ℤ, List, Some, Bool, cond, refl}
use Rattle.std.proofs.lemmas.Cmp.{int_cmp_total}
use Rattle.std.specs.FinMap.{get, insert, int_cmp-IsAntisymmetric}
use Rattle.std.specs.Map.{lookup}
use Rattle.std.specs.Ordering.{int_cmp, int_eq}
use Rattle.rt_day.specs.declared.day.Day.{Day}
use Rattle.schedule_tables.specs.Groups.{days_of}
use Rattle.schedule_tables.proofs.KeyedLemmas.{IsKeyed, from_entries-keyed, lookup-keyed}

abbrev pub has_day : ℤ → Day → Bool
has_day n day = int_eq n day.number

by_day : IsKeyed int_cmp (λ day. day.number) has_day
by_day = record { total = int_cmp_total; same = int_cmp-IsAntisymmetric; tests = λ q day. refl }

pub get_day : (es : List (Day × Bool)) (n : ℤ) → lookup (has_day n) es ≡ get (days_of es) n
get_day es n = lookup-keyed int_cmp (λ day. day.number) has_day by_day es n

-- a write at a day is an insert
pub update_day : (old new : List (Day × Bool)) (day : Day) (added : Bool)
    → ((q : Day) → lookup (has_day q.number) new ≡ cond (int_eq day.number q.number) (Some added) (lookup (has_day q.number) old))
    → days_of new ≡ insert (days_of old) day.number added
update_day old new day added writes = from_entries-keyed int_cmp (λ d. d.number) has_day by_day old new day.number added (λ n. writes (record { number = n }))
