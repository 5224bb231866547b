-- Which of two faults is the first.
use Rattle.std.specs.Prelude.{ℕ, Bool, ◌&&◌, ◌||◌, nat_eq, nat_lt, Option, Some, None, if◌then◌else◌}
use Rattle.export_faults.specs.declared.fault.ExportFault.{ExportFault}
use Rattle.export_faults.specs.declared.fault.FaultKind.{FaultKind}
use Rattle.export_faults.specs.declared.fault.FaultKind.TheVariants.{Missing, Ambiguous}

-- at one place a missing name comes first
abbrev pub rank : FaultKind → ℕ
rank Missing = 0
rank Ambiguous = 1

-- by the module that asks, then by place, then by kind
abbrev pub is_before : ExportFault → ExportFault → Bool
is_before one other = nat_lt one.module other.module || (nat_eq one.module other.module
    && (nat_lt one.place other.place || (nat_eq one.place other.place && nat_lt (rank one.kind) (rank other.kind))))

-- ---- only private clauses cite the rest

abbrev pub first_of : ExportFault → ExportFault → ExportFault
first_of one other = if is_before other one then other else one

-- the first of two, if there is one
abbrev pub earlier : Option ExportFault → Option ExportFault → Option ExportFault
earlier None other = other
earlier (Some one) None = Some one
earlier (Some one) (Some other) = Some (first_of one other)
