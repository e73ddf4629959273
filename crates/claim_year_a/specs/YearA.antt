-- Year A and its edges (document 01) as the bytes of their records, and what computes the bill of such a file from the definitions.
use Rattle.std.specs.Prelude.{ℕ, List, [], ◌∷◌, ◌++◌, replicate}
use Prim.Native.Char.{code}
use Prim.Native.String.{String, [] as none, ◌∷◌ as ◌then◌}
use Rattle.ids.specs.Ids.{sum_to, any_to, all_to, tabulate}
use Rattle.units.specs.Units.{convert}
use Rattle.limits.specs.Limits.{statement_limit}
use Rattle.calendar.specs.Calendar.{days, due, callable, testable}
use Rattle.allotment.specs.Allot.{share}
use Rattle.bits.specs.Bits.{bit_at, number}
use Rattle.bits.specs.Table.{times}
use Rattle.bits.specs.Pack.{bits_of, spell, byte_of, bytes_of, pack, encode}
use Rattle.record_layouts.specs.Layout.{items_in, rules_to, rules_for}
use Rattle.record_layouts.specs.Questions.{record_questions, first_failed, kind_of, head_numbers, rules_of, numbers_of, is_kind, is_whole, permits, permitted, is_filled, rises, ids_rise, record_number, consumed}
use Rattle.year.specs.Year.{new_year, listed, reduction, second, deficit, known, seller, area, zone, product, committed, field_rate, obligation}
use Rattle.owed.specs.Facts.{Facts, facts_of}
use Rattle.owed.specs.Owed.{before_cap, raised, unforced, own, of_area, area_rate, rate, of_seller, share_of, dispatched, dispatch_count, shortfall_over, u, measured, off_u, asked, cap, daily, spent, charge, excess, e, credit_share, credit_limit, credit_of, result, B, test_charge, compliance, test, credit, charges, credits, lse, amounts}
use Rattle.owed.specs.Retests.{below_quarter, test_entry, failed, tested_kw, failed_kw, had_retest}
use Rattle.statement.specs.Statement.{difference, has_registration, has_obligation, seller_columns, line_fields, lines_to, statement_fields, statement_of}
use Rattle.statement.specs.Value42.{value42}
use Rattle.record_heads.specs.Record.{head_of, with_item, with_items, listing_to, listing_in}
use Rattle.question_list.specs.Questions.{month_begun, q6, q7, q8, q9, q10, q17, q11, q20, q21, q12, q13, q14, q15, q16, questions}
use Rattle.question_conditions.specs.Entries.{in_area, in_group, every_listed, deficits_listed, lists_exactly}
use Rattle.book_recorded.specs.After.{year_by}
use Rattle.book_recorded.specs.Recorded.{gather, last_or, sum_over, summed, terms_in, clearings_in, events_in, tests_in, retests_in, recorded}
use Rattle.book_accept.specs.Leaves.{buffer_with}
use Rattle.book_outcome.specs.Outcome.{post_number, year_after, buffer_after}
use Rattle.text.specs.Lines.{digits_to, decimal}
use Rattle.record_file.specs.Walk.{records_to}
use Rattle.claim_history.specs.Runs.{is_accepted, is_closing, accepted_in}
use Rattle.claim_history.specs.Taking.{buffered, step, answered, answers, run}
use Rattle.claim_history.specs.Files.{calls_of}
use Rattle.bill_step.specs.Answer.{answer_text, text_of, calls as calls_in, bill_text}
use Rattle.text_bill.specs.Text.{cents, refusal_line, lines_from, month_line, party_line, statement_lines, answer_lines}

-- a text's bytes
unfoldable pub bytes : String → List ℕ
bytes none = []
bytes (c then s) = code c ∷ bytes s

-- the buffer that the records are lent
abbrev pub blank : List ℕ
blank = replicate statement_limit 0

-- opening; registrations 0 and 1; LSEs 0 and 1
abbrev pub parties : List ℕ
parties =
    0x14 ∷ 0xA3 ∷ 0x95 ∷ 0x18 ∷ 0x00
    ∷ 0x20 ∷ 0x00 ∷ 0x90 ∷ 0x07 ∷ 0xD0 ∷ 0x27 ∷ 0x10
    ∷ 0x20 ∷ 0x44 ∷ 0x90 ∷ 0x0F ∷ 0xA0 ∷ 0x3A ∷ 0x98
    ∷ 0x30 ∷ 0x00 ∷ 0xBB ∷ 0x80
    ∷ 0x31 ∷ 0x00 ∷ 0x3E ∷ 0x80
    ∷ []

-- a test of zone 1 and an event of area 1, both of June, with reductions 600 and 2,100; a September event that lists registration 0 alone
abbrev pub june_test : List ℕ
june_test = 0x52 ∷ 0x08 ∷ 0x01 ∷ 0x00 ∷ 0x02 ∷ 0x58 ∷ 0x04 ∷ 0x10 ∷ 0x68 ∷ []

abbrev pub june_event : List ℕ
june_event = 0x42 ∷ 0x28 ∷ 0x01 ∷ 0x00 ∷ 0x02 ∷ 0x58 ∷ 0x04 ∷ 0x10 ∷ 0x68 ∷ []

abbrev pub september_event : List ℕ
september_event = 0x42 ∷ 0x88 ∷ 0x00 ∷ 0x80 ∷ 0x02 ∷ 0x58 ∷ []

-- the bits of the first close's statement
abbrev pub statement : List ℕ
statement =
    0x11 ∷ 0x08 ∷ 0x00 ∷ 0x00 ∷ 0x00 ∷ 0x00 ∷ 0x00 ∷ 0x00 ∷ 0x00 ∷ 0x00 ∷ 0x09 ∷ 0x02 ∷ 0x40 ∷ 0x00 ∷ 0x00 ∷ 0x00
    ∷ 0x00 ∷ 0x00 ∷ 0x10 ∷ 0x00 ∷ 0x00 ∷ 0x00 ∷ 0x00 ∷ 0x00 ∷ 0x00 ∷ 0x00 ∷ 0x00 ∷ 0x00 ∷ 0x00 ∷ 0x00 ∷ 0x00 ∷ 0x00
    ∷ 0x00 ∷ 0x00 ∷ 0x00 ∷ 0x00 ∷ 0x00 ∷ 0x01 ∷ 0xB0 ∷ 0x6C ∷ 0x10 ∷ 0x00 ∷ 0x00 ∷ 0x02 ∷ 0x40 ∷ 0x90 ∷ []

-- the buffer with it
abbrev pub stated : List ℕ
stated = statement ++ replicate 308 0

-- Fields that differ from each other wherever their places could be mistaken: a leap year at 0.9 and 1.1; Annual registration 7 of seller 3 in
-- area 2 and zone 5, Extended Summer registration 9 of seller 4 in area 2 and zone 6; LSE 5; an off-peak June event that lists 7 with 600 kW
-- and a deficit of 100; a June test that lists 9 with 1,500 kW and a deficit of 50.
abbrev pub others : List ℕ
others =
    0x1C ∷ 0x65 ∷ 0x15 ∷ 0x7C ∷ 0x00
    ∷ 0x21 ∷ 0xCD ∷ 0x58 ∷ 0x07 ∷ 0xD0 ∷ 0x27 ∷ 0x10
    ∷ 0x22 ∷ 0x51 ∷ 0x64 ∷ 0x0F ∷ 0xA0 ∷ 0x3A ∷ 0x98
    ∷ 0x35 ∷ 0x00 ∷ 0x3E ∷ 0x80
    ∷ 0x44 ∷ 0x30 ∷ 0x40 ∷ 0x98 ∷ 0x00 ∷ 0x32 ∷ 0x0E ∷ 0x02 ∷ 0x58
    ∷ 0x5C ∷ 0x88 ∷ 0x40 ∷ 0xA0 ∷ 0x00 ∷ 0x19 ∷ 0x12 ∷ 0x05 ∷ 0xDC
    ∷ []

-- Year A, and Year A with the June event, taken after close 4, and two September events up to close 6
abbrev pub year_a : List ℕ
year_a = parties ++ (june_test ++ (0x61 ∷ 0x61 ∷ []))

abbrev pub with_events : List ℕ
with_events = parties ++ ((0x61 ∷ 0x62 ∷ 0x63 ∷ 0x64 ∷ []) ++ (june_event ++ (0x65 ∷ september_event ++ (september_event ++ (0x66 ∷ [])))))

-- what the bill program prints of a file. What computes it is named here, once for all figures.
unfoldable pub bill : List ℕ → List ℕ
unfolding sum_to any_to all_to tabulate convert days due callable testable share bit_at number bits_of spell byte_of bytes_of pack encode items_in times rules_to rules_for record_questions first_failed kind_of head_numbers rules_of numbers_of is_kind is_whole permits permitted is_filled rises ids_rise listed reduction second deficit known seller area zone product committed field_rate obligation before_cap raised unforced own of_area area_rate rate of_seller share_of dispatched dispatch_count shortfall_over u cap measured off_u asked daily spent charge excess e credit_share credit_limit credit_of result below_quarter test_entry failed tested_kw failed_kw had_retest B test_charge compliance test credit charges credits lse amounts difference has_registration has_obligation seller_columns line_fields lines_to statement_fields statement_of value42 head_of with_item with_items listing_to listing_in in_area in_group every_listed deficits_listed lists_exactly month_begun q6 q7 q8 q9 q10 q17 q11 q20 q21 q12 q13 q14 q15 q16 questions post_number year_by buffer_with year_after buffer_after digits_to decimal cents refusal_line lines_from month_line party_line statement_lines answer_lines bytes record_number consumed records_to is_accepted is_closing buffered step run answered gather last_or sum_over summed terms_in clearings_in events_in tests_in retests_in recorded calls_of answer_text text_of
bill file = bill_text file blank

-- what the rules read of the records that are accepted of a file
abbrev pub owed_by : List ℕ → Facts
owed_by file = facts_of (recorded (accepted_in (answers new_year (calls_in file blank))))
