use Rattle.hm_event_parts.proofs.pieces.+put_hexadecimal_digits.Given as goal

abbrev pub decreases-put_hexadecimal_digits : goal.decreases-put_hexadecimal_digits
decreases-put_hexadecimal_digits l = l.number
