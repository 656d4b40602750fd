-- How a loan is seen, and what a turnstile has of its own.
use Rattle.std.specs.Prelude.{◌≡◌, ℕ, [], length, IfSome, is_some, option_map}
use Rattle.wait_objects.specs.Turnstiles.Seen.{Loan, Lending, linked_terms}
use Rattle.wait_objects.specs.declared.loan.Loan.TheInside.{Inside as InLoan}
use Rattle.wait_objects.specs.declared.lending.Lending.TheInside.{Inside as InLending}

abbrev pub seen_loan : InLoan → Loan
seen_loan a =
    record {
      terms = record { number = a.number.0; lock = a.l.0; prio = a.prio.0 };
      next = linked_terms a.next;
    }

abbrev pub loan_size : Loan → ℕ
loan_size v = length v.next

abbrev pub seen_lending : InLending → Lending
seen_lending a =
    record {
      lock = option_map (λ l. l.0) a.lock;
      owner = option_map (λ t. t.0) a.owner;
      loan_home = is_some a.loan;
    }

-- nothing is behind a loan node at home
abbrev pub IsAlone : InLending → Type 0
IsAlone a = IfSome a.loan (λ b. b.value.next ≡ [])
