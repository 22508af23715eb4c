use Rattle.std.proofs.Common.{◌≡◌, ◌≤◌, true, take}
use Rattle.std.specs.List.{list_all}
use Rattle.std.specs.Char.{is_ascii_digit}
use Rattle.std.specs.Str.Parse.{digits_value}
use Rattle.http_message.specs.Extents.{IsNumberUpTo}
use Rattle.http_message.specs.Limits.{max_body}
use Rattle.http_message.proofs.extent.number_of.Given as goal

abbrev pub invariant-loop-digit : goal.invariant-loop-digit
invariant-loop-digit l = record {
  small : l.number ≤ 10485769;
  digits : list_all is_ascii_digit (take l.digit-index l.text) ≡ true;
  number : IsNumberUpTo max_body (digits_value 10 (take l.digit-index l.text)) l.number;
}
