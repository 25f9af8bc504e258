-- The names of the rules.
use Rattle.std.specs.Prelude.{ℕ, ◌==◌, Bool, List, codes, take}
use Rattle.rule_table.specs.declared.rule.RuleId.{RuleId}
use Rattle.rule_table.specs.declared.rule.RuleId.TheVariants.{E001, E002, E003, E004, E006, E009, E011, E012, E013, E015, E016, E017, E018, E019, E020, E021, E022, E023, E024, E025, E030, E031, E032, E033, E034, E035, E036, E037, E038, E039, E040, E041, E042, E043, E044, E045, E046, E047, E048, E049, E050, E051, E052, W001, W002, W003, W005, W006, W007, W008, W009, X001, X002}

-- a rule's text
abbrev pub rule_name : RuleId → List ℕ
rule_name E001 = codes "E001"
rule_name E002 = codes "E002"
rule_name E003 = codes "E003"
rule_name E004 = codes "E004"
rule_name E006 = codes "E006"
rule_name E009 = codes "E009"
rule_name E011 = codes "E011"
rule_name E012 = codes "E012"
rule_name E013 = codes "E013"
rule_name E015 = codes "E015"
rule_name E016 = codes "E016"
rule_name E017 = codes "E017"
rule_name E018 = codes "E018"
rule_name E019 = codes "E019"
rule_name E020 = codes "E020"
rule_name E021 = codes "E021"
rule_name E022 = codes "E022"
rule_name E023 = codes "E023"
rule_name E024 = codes "E024"
rule_name E025 = codes "E025"
rule_name E030 = codes "E030"
rule_name E031 = codes "E031"
rule_name E032 = codes "E032"
rule_name E033 = codes "E033"
rule_name E034 = codes "E034"
rule_name E035 = codes "E035"
rule_name E036 = codes "E036"
rule_name E037 = codes "E037"
rule_name E038 = codes "E038"
rule_name E039 = codes "E039"
rule_name E040 = codes "E040"
rule_name E041 = codes "E041"
rule_name E042 = codes "E042"
rule_name E043 = codes "E043"
rule_name E044 = codes "E044"
rule_name E045 = codes "E045"
rule_name E046 = codes "E046"
rule_name E047 = codes "E047"
rule_name E048 = codes "E048"
rule_name E049 = codes "E049"
rule_name E050 = codes "E050"
rule_name E051 = codes "E051"
rule_name E052 = codes "E052"
rule_name W001 = codes "W001"
rule_name W002 = codes "W002"
rule_name W003 = codes "W003"
rule_name W005 = codes "W005"
rule_name W006 = codes "W006"
rule_name W007 = codes "W007"
rule_name W008 = codes "W008"
rule_name W009 = codes "W009"
rule_name X001 = codes "X001"
rule_name X002 = codes "X002"

-- how much a finding of it weighs: the first letter of its text, E an error, W a warning, X an error of this profile's own
abbrev pub level : RuleId → List ℕ
level rule = take 1 (rule_name rule)

-- its place in the order of the rules' texts, from 0
abbrev pub rule_number : RuleId → ℕ
rule_number E001 = 0
rule_number E002 = 1
rule_number E003 = 2
rule_number E004 = 3
rule_number E006 = 4
rule_number E009 = 5
rule_number E011 = 6
rule_number E012 = 7
rule_number E013 = 8
rule_number E015 = 9
rule_number E016 = 10
rule_number E017 = 11
rule_number E018 = 12
rule_number E019 = 13
rule_number E020 = 14
rule_number E021 = 15
rule_number E022 = 16
rule_number E023 = 17
rule_number E024 = 18
rule_number E025 = 19
rule_number E030 = 20
rule_number E031 = 21
rule_number E032 = 22
rule_number E033 = 23
rule_number E034 = 24
rule_number E035 = 25
rule_number E036 = 26
rule_number E037 = 27
rule_number E038 = 28
rule_number E039 = 29
rule_number E040 = 30
rule_number E041 = 31
rule_number E042 = 32
rule_number E043 = 33
rule_number E044 = 34
rule_number E045 = 35
rule_number E046 = 36
rule_number E047 = 37
rule_number E048 = 38
rule_number E049 = 39
rule_number E050 = 40
rule_number E051 = 41
rule_number E052 = 42
rule_number W001 = 43
rule_number W002 = 44
rule_number W003 = 45
rule_number W005 = 46
rule_number W006 = 47
rule_number W007 = 48
rule_number W008 = 49
rule_number W009 = 50
rule_number X001 = 51
rule_number X002 = 52

abbrev pub same_rule : RuleId → RuleId → Bool
same_rule a b = rule_number a == rule_number b
